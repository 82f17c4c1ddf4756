use Rattle.std.proofs.Common.{w16}
use Rattle.utf16_units.proofs.LanesByIndex.{lanes_chosen_masked}
use Rattle.utf16_to_utf8.proofs.lanes.where_surrogate.Goals as goal

pub returns : goal.returns
returns g c = lanes_chosen_masked g.row.N w16 c.args.v 0xF800 0xD800 c.args.a c.args.b c.fits-v.0 c.fits-a.0 c.fits-b.0
