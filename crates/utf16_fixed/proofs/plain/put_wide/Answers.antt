use Rattle.utf16_fixed.proofs.StoreLemmas.{wide-eights}
use Rattle.utf16_fixed.proofs.plain.put_wide.Goals as goal

pub returns : goal.returns
returns c =
    wide-eights c.args.at c.args.to.now c.put_eight.new.to c.put_eight-2.new.to c.put_eight-3.new.to c.put_eight-4.new.to c.args.units c.fits-units.0
    c.put_eight.ensures c.put_eight-2.ensures c.put_eight-3.ensures c.put_eight-4.ensures
