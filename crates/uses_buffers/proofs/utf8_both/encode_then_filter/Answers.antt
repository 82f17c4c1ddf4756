use Rattle.std.proofs.Common.{Some}
use Rattle.utf16_streams.specs.Filter.{whole_utf8}
use Rattle.utf16_streams.specs.Encoder.{whole_utf16}
use Rattle.uses_buffers.proofs.Utf8Both.{both}
use Rattle.uses_buffers.proofs.utf8_both.encode_then_filter.Goals as goal

pub returns : goal.returns
returns g c = record {
  same = λ bytes input valid empty passed. both (whole_utf16 g.E.Utf16Order.BIG) (whole_utf8 (Some g.E.Utf16Order.BIG))
      _ _ _ _ _ _ _ _ bytes (c.in_ok-encode_stream.ensures.transfers) (c.in_ok-filter.ensures.transfers)
      input empty passed
      ((c.there_and_back.ensures g.E.Utf16Order.BIG bytes).0 valid);
}
