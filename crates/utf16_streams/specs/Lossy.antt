-- What contracts can say about a `Lossy`: its pending bytes.
use Rattle.std.specs.Prelude.{ℕ, List}
use Rattle.utf16_units.specs.declared.byte_order.Utf16Order.{Ghosts}
use Rattle.utf16_transcode.specs.Stream.{stream_pending}
use Rattle.utf16_streams.specs.declared.lossy.Lossy.{Lossy}

module _ {E : Type 0} {order : Ghosts E} where
  -- `decoder.pending()`
  abbrev pub lossy_pending : Lossy E order → List ℕ
  lossy_pending decoder = stream_pending decoder.stream
