use Rattle.utf16_fixed.proofs.StoreLemmas.{eight-fours}
use Rattle.utf16_fixed.proofs.plain.put_eight.Goals as goal

pub returns : goal.returns
returns c = eight-fours c.args.at c.args.to.now c.put_four.new.to c.put_four-2.new.to c.args.units c.fits-units.0 c.put_four.ensures c.put_four-2.ensures
