use Rattle.std.proofs.Common.{ℕ, ◌/◌, ◌^◌}
use Rattle.std.proofs.lemmas.Simd.{shifts_fit_splat}
use Rattle.utf16_units.proofs.LanesByIndex.{lanes_of_each}
use Rattle.utf16_to_utf8.proofs.lanes.down.Goals as goal

pub overflow_shr-result : goal.overflow_shr-result
overflow_shr-result g c = shifts_fit_splat 16 c.args.v _ c.args.bits c.requires

pub returns : goal.returns
returns g c = lanes_of_each g.row.N (λ (a bits : ℕ). a / 2 ^ bits) c.args.v c.args.bits c.fits-v.0
