use Rattle.utf8_bytes.proofs.LawProofs.{text_is_shown}
use Rattle.utf8_bytes.proofs.laws.text_is_shown.Goals as goal

pub returns : goal.returns
returns c = text_is_shown
