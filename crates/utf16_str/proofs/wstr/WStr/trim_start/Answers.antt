use Rattle.utf16_str.proofs.TrimLemmas.{trimmed-start}
use Rattle.utf16_str.proofs.wstr.WStr.trim_start.Goals as goal

pub returns-clause-text : goal.returns-clause-text
returns-clause-text g c = trimmed-start _ _ c.trim_start_by.ensures.text
