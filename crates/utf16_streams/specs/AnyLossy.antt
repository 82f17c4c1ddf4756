-- What contracts can say about an `AnyLossy`: its pending bytes and its byte order.
use Rattle.std.specs.Prelude.{ℕ, Bool, true, false, List, Option, Some, None}
use Rattle.std.specs.Option.{option_to_list}
use Rattle.utf16_streams.specs.Lossy.{lossy_pending}
use Rattle.utf16_streams.specs.declared.any_lossy.AnyLossy.{AnyLossy}
use Rattle.utf16_streams.specs.declared.any_lossy.State.{State}
use Rattle.utf16_streams.specs.declared.any_lossy.State.TheVariants.{Big, Little, Undecided}

-- the bytes of a state that are not decoded yet
abbrev pub state_pending : State → List ℕ
state_pending (Undecided first) = option_to_list first
state_pending (Big decoder) = lossy_pending decoder
state_pending (Little decoder) = lossy_pending decoder

-- the byte order of a state, once it is decided
abbrev pub state_byte_order : State → Option Bool
state_byte_order (Undecided first) = None
state_byte_order (Big decoder) = Some true
state_byte_order (Little decoder) = Some false

-- `decoder.pending()`
abbrev pub any_pending : AnyLossy → List ℕ
any_pending decoder = state_pending decoder.state

-- the byte order found: `Some true` for big endian, `Some false` for little endian, and `None` if
-- fewer than two bytes have come
abbrev pub any_byte_order : AnyLossy → Option Bool
any_byte_order decoder = state_byte_order decoder.state
