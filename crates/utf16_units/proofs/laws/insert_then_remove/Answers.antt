use Rattle.utf16_units.proofs.LawProofs.{insert_then_remove}
use Rattle.utf16_units.proofs.laws.insert_then_remove.Goals as goal

pub returns : goal.returns
returns c = insert_then_remove
