use Rattle.utf16_bytes.proofs.OccurrenceLemmas.{units_cut_no_pair}
use Rattle.utf16_bytes.proofs.search_laws.units_cut_no_pair.Goals as goal

pub returns : goal.returns
returns c = units_cut_no_pair
