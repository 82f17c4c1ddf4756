use Rattle.utf16_bytes.proofs.OccurrenceLemmas.{text_around}
use Rattle.utf16_bytes.proofs.search_laws.text_around.Goals as goal

pub returns : goal.returns
returns c = text_around
