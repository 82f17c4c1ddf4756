use Rattle.std.proofs.Common.{bit_or}
use Rattle.utf16_units.proofs.LanesByIndex.{lanes_of_two}
use Rattle.utf16_from_utf8.proofs.units.joined.Goals as goal

pub returns : goal.returns
returns c = lanes_of_two 16 bit_or c.args.a c.args.b c.fits-a.0 c.fits-b.0
