use Rattle.utf16_fixed.proofs.PairLemmas.{chars-lanes}
use Rattle.utf16_fixed.proofs.pairs.chars_of.Goals as goal

pub returns : goal.returns
returns c = chars-lanes c.args.bits c.fits-bits.0
