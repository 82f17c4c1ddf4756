use Rattle.std.proofs.Common.{refl, replicate}
use Rattle.utf16_units.proofs.LanesByIndex.{lanes_behind}
use Rattle.utf16_from_utf8.proofs.lanes.previous_lanes.Goals as goal

pub returns : goal.returns
returns c = lanes_behind 15 (replicate 16 c.args.before) c.args.v refl c.fits-v.0
