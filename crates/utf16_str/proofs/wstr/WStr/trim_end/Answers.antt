use Rattle.utf16_str.proofs.TrimLemmas.{trimmed-end}
use Rattle.utf16_str.proofs.wstr.WStr.trim_end.Goals as goal

pub returns-clause-text : goal.returns-clause-text
returns-clause-text g c = trimmed-end _ _ c.trim_end_by.ensures.text
