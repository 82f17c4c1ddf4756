use Rattle.std.proofs.Common.{◌∙◌}
use Rattle.std.proofs.lemmas.List.{map-id}
use Rattle.utf16_fixed.proofs.LaneLemmas.{lowest-fit, lowest-lanes}
use Rattle.utf16_fixed.proofs.lanes.low_units.Goals as goal

pub overflow_cast-result : goal.overflow_cast-result
overflow_cast-result g c = lowest-fit g.row.N c.args.units c.fits-units.0

pub returns : goal.returns
returns g c = map-id _ ∙ lowest-lanes g.row.N c.args.units c.fits-units.0
