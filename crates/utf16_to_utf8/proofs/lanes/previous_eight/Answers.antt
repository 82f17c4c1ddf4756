use Rattle.utf16_units.proofs.LanesByIndex.{lanes_behind}
use Rattle.utf16_to_utf8.proofs.lanes.previous_eight.Goals as goal

pub returns : goal.returns
returns c = lanes_behind 7 c.args.previous c.args.v c.fits-previous.0 c.fits-v.0
