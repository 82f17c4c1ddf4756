use Rattle.utf16_units.proofs.LawProofs.{split_unique}
use Rattle.utf16_units.proofs.laws.split_unique.Goals as goal

pub returns : goal.returns
returns c = split_unique
