use Rattle.utf16_units.proofs.EncodingLemmas.{Encodes-text_of, IsUtf16-from_is_utf16}
use Rattle.utf16_str.proofs.wstr.WStr.as_bytes.Goals as goal

pub returns-clause-encoding : goal.returns-clause-encoding
returns-clause-encoding g c =
    Encodes-text_of g.E.Utf16Order.BIG c.args.self.raw.now (IsUtf16-from_is_utf16 g.E.Utf16Order.BIG c.args.self.raw.now c.args.self.well_formed)
