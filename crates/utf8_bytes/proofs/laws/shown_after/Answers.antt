use Rattle.utf8_bytes.proofs.LawProofs.{shown_after}
use Rattle.utf8_bytes.proofs.laws.shown_after.Goals as goal

pub returns : goal.returns
returns c = shown_after
