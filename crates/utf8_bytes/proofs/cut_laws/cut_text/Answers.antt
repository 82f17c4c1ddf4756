use Rattle.utf8_bytes.proofs.CutLawProofs.{cut_text}
use Rattle.utf8_bytes.proofs.cut_laws.cut_text.Goals as goal

pub returns : goal.returns
returns c = cut_text
