use Rattle.utf16_units.proofs.SameLemmas.{differing-is}
use Rattle.utf16_units.proofs.compare.differing.Goals as goal

pub returns : goal.returns
returns g c = differing-is c.args.first.now c.args.second.now c.args.at g.row.N c.requires.lanes.1 c.requires.within c.requires.other_within
