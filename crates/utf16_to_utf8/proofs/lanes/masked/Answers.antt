use Rattle.std.proofs.Common.{bit_and}
use Rattle.utf16_units.proofs.LanesByIndex.{lanes_of_each}
use Rattle.utf16_to_utf8.proofs.lanes.masked.Goals as goal

pub returns : goal.returns
returns g c = lanes_of_each g.row.N bit_and c.args.v c.args.mask c.fits-v.0
