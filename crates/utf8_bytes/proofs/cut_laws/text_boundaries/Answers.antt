use Rattle.utf8_bytes.proofs.CutLawProofs.{text_boundaries}
use Rattle.utf8_bytes.proofs.cut_laws.text_boundaries.Goals as goal

pub returns : goal.returns
returns c = text_boundaries
