use Rattle.utf16_units.proofs.LawProofs.{split_then_push}
use Rattle.utf16_units.proofs.laws.split_then_push.Goals as goal

pub returns : goal.returns
returns c = split_then_push
