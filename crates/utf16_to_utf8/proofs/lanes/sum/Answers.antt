use Rattle.utf16_to_utf8.specs.Lanes.{plus}
use Rattle.utf16_units.proofs.LanesByIndex.{lanes_of_two}
use Rattle.utf16_to_utf8.proofs.lanes.sum.Goals as goal

pub returns : goal.returns
returns g c = lanes_of_two g.row.N plus c.args.a c.args.b c.fits-a.0 c.fits-b.0
