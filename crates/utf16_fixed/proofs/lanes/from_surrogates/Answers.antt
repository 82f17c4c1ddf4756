use Rattle.utf16_fixed.proofs.LaneLemmas.{from_surrogates-lanes}
use Rattle.utf16_fixed.proofs.lanes.from_surrogates.Goals as goal

pub returns : goal.returns
returns c = from_surrogates-lanes c.args.units c.fits-units.0
