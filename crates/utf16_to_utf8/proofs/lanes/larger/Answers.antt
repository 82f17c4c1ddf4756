use Rattle.std.proofs.Common.{ltb, w16}
use Rattle.utf16_to_utf8.proofs.BoundLemmas.{lanes_of_choice}
use Rattle.utf16_to_utf8.proofs.lanes.larger.Goals as goal

pub returns : goal.returns
returns g c = lanes_of_choice g.row.N w16 ltb c.args.a c.args.b c.args.b c.args.a c.fits-a.0 c.fits-b.0 c.fits-b.0 c.fits-a.0
