use Rattle.utf8_bytes.proofs.LawProofs.{shown_within}
use Rattle.utf8_bytes.proofs.laws.shown_within.Goals as goal

pub returns : goal.returns
returns c = shown_within
