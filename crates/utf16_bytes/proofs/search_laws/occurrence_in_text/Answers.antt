use Rattle.utf16_bytes.proofs.OccurrenceLemmas.{occurrence_in_text}
use Rattle.utf16_bytes.proofs.search_laws.occurrence_in_text.Goals as goal

pub returns : goal.returns
returns c = occurrence_in_text
