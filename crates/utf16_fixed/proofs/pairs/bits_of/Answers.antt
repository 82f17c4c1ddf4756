use Rattle.utf16_fixed.proofs.PairLemmas.{bits-lanes}
use Rattle.utf16_fixed.proofs.pairs.bits_of.Goals as goal

pub returns : goal.returns
returns c = bits-lanes c.args.pairs c.fits-pairs.0
