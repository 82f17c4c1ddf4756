use Rattle.utf16_bytes.proofs.PartsLemmas.{cuts_text}
use Rattle.utf16_bytes.proofs.cut_laws.cuts_text.Goals as goal

pub returns : goal.returns
returns c = cuts_text
