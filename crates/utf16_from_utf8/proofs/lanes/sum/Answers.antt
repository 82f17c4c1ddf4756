use Rattle.std.proofs.Common.{ℕ, ◌+◌, ◌%◌, ◌^◌}
use Rattle.utf16_units.proofs.LanesByIndex.{lanes_of_two}
use Rattle.utf16_from_utf8.proofs.lanes.sum.Goals as goal

pub returns : goal.returns
returns c = lanes_of_two 16 (λ (a b : ℕ). (a + b) % 2 ^ 8) c.args.a c.args.b c.fits-a.0 c.fits-b.0
