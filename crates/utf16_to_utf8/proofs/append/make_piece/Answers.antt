use Rattle.std.proofs.Common.{sym}
use Rattle.utf16_units.specs.Encoding.{text_of}
use Rattle.utf16_units.proofs.EncodingLemmas.{all_scalars-from_All, scalars-text_of}
use Rattle.utf16_to_utf8.proofs.append.make_piece.Goals as goal

pub from_utf8_unchecked-requires : goal.from_utf8_unchecked-requires
from_utf8_unchecked-requires g c =
    let big = g.E.Utf16Order.BIG in
    let raw = c.args.raw.now in
    (text_of big raw, (all_scalars-from_All (text_of big raw) (scalars-text_of big raw c.requires.well_formed), sym c.write_utf8-len.ensures.utf8))
