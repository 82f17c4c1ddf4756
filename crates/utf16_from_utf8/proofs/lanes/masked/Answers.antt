use Rattle.std.proofs.Common.{bit_and}
use Rattle.utf16_units.proofs.LanesByIndex.{lanes_of_each}
use Rattle.utf16_from_utf8.proofs.lanes.masked.Goals as goal

pub returns : goal.returns
returns c = lanes_of_each 16 bit_and c.args.v c.args.mask c.fits-v.0
