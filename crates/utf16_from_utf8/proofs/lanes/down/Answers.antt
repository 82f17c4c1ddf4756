use Rattle.std.proofs.Common.{ℕ, ◌/◌, ◌^◌}
use Rattle.utf16_units.proofs.LanesByIndex.{lanes_of_each}
use Rattle.utf16_from_utf8.proofs.lanes.down.Goals as goal

pub returns : goal.returns
returns c = lanes_of_each 16 (λ (a by : ℕ). a / 2 ^ by) c.args.v c.args.by c.fits-v.0
