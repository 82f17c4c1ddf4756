use Rattle.utf16_from_utf8.proofs.LaneLemmas.{bit-set, bits-set, few-set}
use Rattle.utf16_from_utf8.proofs.lanes.set_bits.Goals as goal

pub returns-clause-bits : goal.returns-clause-bits
returns-clause-bits c = bit-set c.args.v _ c.fits-v.0 (bits-set c.args.v c.fits-v.0)

pub returns-clause-bound : goal.returns-clause-bound
returns-clause-bound c = few-set c.args.v _ c.fits-v.0 (bits-set c.args.v c.fits-v.0)
