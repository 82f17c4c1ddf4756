use Rattle.std.proofs.Common.{ltb, w16}
use Rattle.utf16_units.proofs.LanesByIndex.{lanes_chosen}
use Rattle.utf16_to_utf8.proofs.lanes.where_below.Goals as goal

pub returns : goal.returns
returns g c = lanes_chosen g.row.N w16 ltb c.args.v c.args.limit c.args.a c.args.b c.fits-v.0 c.fits-a.0 c.fits-b.0
