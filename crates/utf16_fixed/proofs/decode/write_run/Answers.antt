use Rattle.std.proofs.Common.{◌*◌, rules}
use Rattle.utf16_transcode.specs.Transcoded.{Writes}
use Rattle.utf16_units.proofs.IllFormedLemmas.{rest_from}
use Rattle.utf16_fixed.proofs.PartLemmas.{Writes-rest}
use Rattle.utf16_fixed.specs.Utf32.{TranscodesToUtf32}
use Rattle.utf16_fixed.proofs.TextLemmas.{utf32_joins}
use Rattle.utf16_fixed.proofs.decode.write_run.Goals as goal

pub returns-clause-wrote : goal.returns-clause-wrote
returns-clause-wrote g c =
    let big = g.E.Utf16Order.BIG in
    let n = c.write_plain-len.result in
    let part : Writes (TranscodesToUtf32 big) (rest_from c.args.raw.now c.args.from.read) c.write_plain-len.new.to (2 * n) n =
    record { within = c.write_plain-len.ensures.within; fits = c.write_plain-len.ensures.fits; gives = c.write_plain-len.ensures.text } in
    Writes-rest (utf32_joins big) _ _ _ _ _ _ _ c.requires part (search rules)
