use Rattle.utf8_bytes.proofs.LawProofs.{split_unique}
use Rattle.utf8_bytes.proofs.laws.split_unique.Goals as goal

pub returns : goal.returns
returns c = split_unique
