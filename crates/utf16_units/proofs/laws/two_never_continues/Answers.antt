use Rattle.utf16_units.proofs.LawProofs.{two_never_continues}
use Rattle.utf16_units.proofs.laws.two_never_continues.Goals as goal

pub returns : goal.returns
returns c = two_never_continues
