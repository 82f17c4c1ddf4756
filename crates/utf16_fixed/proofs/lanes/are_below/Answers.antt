use Rattle.utf16_fixed.proofs.BelowLemmas.{below_by_bits}
use Rattle.utf16_fixed.proofs.lanes.are_below.Goals as goal

pub returns : goal.returns
returns g c = below_by_bits g.row.N c.args.limit c.args.units c.fits-units.0 c.requires
