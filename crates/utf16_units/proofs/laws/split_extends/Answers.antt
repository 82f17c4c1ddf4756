use Rattle.utf16_units.proofs.LawProofs.{split_extends}
use Rattle.utf16_units.proofs.laws.split_extends.Goals as goal

pub returns : goal.returns
returns c = split_extends
