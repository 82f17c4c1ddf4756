use Rattle.utf16_units.proofs.LawProofs.{more_after}
use Rattle.utf16_units.proofs.laws.more_after.Goals as goal

pub returns : goal.returns
returns c = more_after
