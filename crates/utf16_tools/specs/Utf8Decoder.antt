-- What contracts can say about a `Utf8Decoder`: its pending bytes.
use Rattle.std.specs.Prelude.{ℕ, List}
use Rattle.utf16_units.specs.declared.byte_order.Utf16Order.{Ghosts}
use Rattle.utf16_transcode.specs.Stream.{stream_pending}
use Rattle.utf16_tools.specs.declared.utf8_decoder.Utf8Decoder.{Utf8Decoder}

module _ {E : Type 0} {order : Ghosts E} where
  -- `decoder.pending()`
  abbrev pub utf8_decoder_pending : Utf8Decoder E order → List ℕ
  utf8_decoder_pending decoder = stream_pending decoder.stream
