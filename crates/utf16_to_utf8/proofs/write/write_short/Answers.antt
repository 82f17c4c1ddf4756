use Rattle.std.proofs.Common.{arith}
use Rattle.utf16_to_utf8.proofs.SpaceLemmas.{all-read, written-fits}
use Rattle.utf16_to_utf8.proofs.write.write_short.Goals as goal

pub returns-clause-fits : goal.returns-clause-fits
returns-clause-fits g c =
    let eights = c.write_vectors in
    written-fits eights.new.to _ eights.result.written eights.ensures.utf8 eights.ensures.len

pub returns-clause-utf8 : goal.returns-clause-utf8
returns-clause-utf8 g c =
    let eights = c.write_vectors in
    let e = eights.ensures in
    all-read g.E.Utf16Order.BIG c.args.raw.now eights.new.to eights.result.read eights.result.written e.well_formed e.within (returns-clause-fits g c) e.utf8 (omega (arith, c.requires.space, eights.auto.to)) (e.whole c.requires.well_formed)
