use Rattle.std.proofs.Common.{ltb, w8}
use Rattle.utf16_units.proofs.LanesByIndex.{lanes_chosen}
use Rattle.utf16_from_utf8.proofs.lanes.where_below.Goals as goal

pub returns : goal.returns
returns c = lanes_chosen 16 w8 ltb c.args.v c.args.limit c.args.a c.args.b c.fits-v.0 c.fits-a.0 c.fits-b.0
