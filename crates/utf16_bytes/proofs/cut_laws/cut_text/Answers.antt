use Rattle.utf16_bytes.proofs.CutLemmas.{cut_text}
use Rattle.utf16_bytes.proofs.cut_laws.cut_text.Goals as goal

pub returns : goal.returns
returns c = cut_text
