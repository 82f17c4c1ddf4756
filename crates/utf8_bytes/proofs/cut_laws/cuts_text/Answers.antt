use Rattle.utf8_bytes.proofs.CutLawProofs.{cuts_text}
use Rattle.utf8_bytes.proofs.cut_laws.cuts_text.Goals as goal

pub returns : goal.returns
returns c = cuts_text
