use Rattle.std.proofs.Common.{◌-◌, length}
use Rattle.utf16_bytes.proofs.SwapLemmas.{SwappedTo}
use Rattle.utf16_bytes.proofs.swap.swap_byte_order.Given as goal

abbrev pub invariant-loop-utf16 : goal.invariant-loop-utf16
invariant-loop-utf16 l = SwappedTo l.fn.utf16 l.utf16 l.at

abbrev pub decreases-loop-utf16 : goal.decreases-loop-utf16
decreases-loop-utf16 l = length l.utf16 - l.at

abbrev pub invariant-loop-utf16-2 : goal.invariant-loop-utf16-2
invariant-loop-utf16-2 l = SwappedTo l.fn.utf16 l.utf16 l.at

abbrev pub decreases-loop-utf16-2 : goal.decreases-loop-utf16-2
decreases-loop-utf16-2 l = length l.utf16 - l.at
