use Rattle.utf16_units.proofs.LawProofs.{shown_within}
use Rattle.utf16_units.proofs.laws.shown_within.Goals as goal

pub returns : goal.returns
returns c = shown_within
