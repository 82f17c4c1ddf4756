use Rattle.utf8_bytes.proofs.LawProofs.{split_extends}
use Rattle.utf8_bytes.proofs.laws.split_extends.Goals as goal

pub returns : goal.returns
returns c = split_extends
