use Rattle.std.proofs.Common.{ltb, w8}
use Rattle.utf16_from_utf8.proofs.LaneLemmas.{lanes_of_choice}
use Rattle.utf16_from_utf8.proofs.lanes.greater.Goals as goal

pub returns : goal.returns
returns c = lanes_of_choice 16 w8 ltb c.args.a c.args.b c.args.b c.args.a c.fits-a.0 c.fits-b.0 c.fits-b.0 c.fits-a.0
