use Rattle.utf16_to_utf8.proofs.BoundLemmas.{from_smaller}
use Rattle.utf16_to_utf8.proofs.blocks.least.Goals as goal

pub returns-clause-bound : goal.returns-clause-bound
returns-clause-bound c limit all =
    let low = from_smaller 8 limit c.smaller.result _ _ _ c.smaller.ensures.len c.eights.ensures.low c.eights.ensures.high c.smaller-2.ensures all in
    from_smaller 16 limit c.args.units _ _ _ c.fits-units.0 c.sixteens.ensures.low c.sixteens.ensures.high c.smaller.ensures low
