use Rattle.std.proofs.Common.{◌+◌, refl, rules}
use Rattle.utf16_units.proofs.IllFormedLemmas.{rest_from}
use Rattle.utf16_transcode.proofs.ToUtf8Lemmas.{utf8_joins}
use Rattle.utf16_transcode.proofs.TranscodedLemmas.{WritesAt-put, Writes-then, enough}
use Rattle.utf16_transcode.proofs.decode.write_short_rest.Goals as goal

pub returns-clause-wrote : goal.returns-clause-wrote
returns-clause-wrote g c =
    let to = c.args.to.now in
    let read = c.args.from.read in
    let at = c.args.from.written in
    let put = c.write_vectors-rest in
    let rest = rest_from c.args.raw.now read in
    Writes-then (utf8_joins g.E.Utf16Order.BIG) c.args.raw.now to _ read at put.result.read (at + put.result.written) c.requires
    (WritesAt-put rest to put.new.to _ at put.result.read put.result.written c.requires.fits (search rules) put.ensures.within
    (put.ensures.well_formed, refl) put.ensures.utf8 (enough _ _ _ put.ensures.utf8 put.ensures.len))
