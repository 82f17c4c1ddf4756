use Rattle.utf16_fixed.proofs.PairLemmas.{tests-lanes}
use Rattle.utf16_fixed.proofs.pairs.tests_of.Goals as goal

pub returns : goal.returns
returns c = tests-lanes c.args.bits c.fits-bits.0
