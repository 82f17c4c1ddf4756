use Rattle.utf16_to_utf8.specs.Lanes.{up}
use Rattle.std.proofs.lemmas.Simd.{shifts_fit_splat}
use Rattle.utf16_units.proofs.LanesByIndex.{lanes_of_each}
use Rattle.utf16_to_utf8.proofs.lanes.up.Goals as goal

pub overflow_shl-result : goal.overflow_shl-result
overflow_shl-result g c = shifts_fit_splat 16 c.args.v _ c.args.bits c.requires

pub returns : goal.returns
returns g c = lanes_of_each g.row.N up c.args.v c.args.bits c.fits-v.0
