use Rattle.utf8_bytes.proofs.LawProofs.{split_exists}
use Rattle.utf8_bytes.proofs.laws.split_exists.Goals as goal

pub returns : goal.returns
returns c = split_exists
