use Rattle.std.proofs.Common.{◌+◌, ◌-◌, ◌*◌, length, rules}
use borrow.Rule.Slice.PartMut.{put_mid}
use Rattle.utf16_transcode.specs.Transcoded.{Writes}
use Rattle.utf16_units.proofs.IllFormedLemmas.{rest_from}
use Rattle.utf16_fixed.proofs.PartLemmas.{Writes-rest}
use Rattle.utf16_fixed.specs.Utf32.{TranscodesFromUtf32}
use Rattle.utf16_fixed.proofs.TextLemmas.{utf16_joins}
use Rattle.utf16_fixed.proofs.encode.write_run.Given.{Over}
use Rattle.utf16_fixed.proofs.encode.write_run.Goals as goal
use Rattle.utf16_fixed.proofs.encode.write_run.Goals.{After-write_basic-len}

-- the characters of one code unit each are written
basic : (g : Over) (c : After-write_basic-len g)
    → Writes (TranscodesFromUtf32 g.E.Utf16Order.BIG) c.args.utf32.now
    (put_mid c.args.from.written (length c.args.to.now - c.args.from.written) c.args.to.now c.write_basic-len.new.to)
    (c.args.from.read + c.write_basic-len.result) (c.args.from.written + 2 * c.write_basic-len.result)
basic g c =
    let big = g.E.Utf16Order.BIG in
    let n = c.write_basic-len.result in
    let part : Writes (TranscodesFromUtf32 big) (rest_from c.args.utf32.now c.args.from.read) c.write_basic-len.new.to n (2 * n) =
    record { within = c.write_basic-len.ensures.within; fits = c.write_basic-len.ensures.fits; gives = c.write_basic-len.ensures.text } in
    Writes-rest (utf16_joins big) _ _ _ _ _ _ _ c.requires part (search rules)

pub write_char_blocks-requires : goal.write_char_blocks-requires
write_char_blocks-requires g c = basic g (goal.at.write_char_blocks-requires g c).After-write_basic-len

pub returns-clause-wrote : goal.returns-clause-wrote
returns-clause-wrote g c = basic g (goal.at.returns-clause-wrote g c).After-write_basic-len
