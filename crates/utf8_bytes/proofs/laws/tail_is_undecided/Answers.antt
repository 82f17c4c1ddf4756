use Rattle.utf8_bytes.proofs.LawProofs.{tail_is_undecided}
use Rattle.utf8_bytes.proofs.laws.tail_is_undecided.Goals as goal

pub returns : goal.returns
returns c = tail_is_undecided
