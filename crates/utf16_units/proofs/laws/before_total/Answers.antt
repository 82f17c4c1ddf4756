use Rattle.utf16_units.proofs.TextOrderLemmas.{before_total}
use Rattle.utf16_units.proofs.laws.before_total.Goals as goal

pub returns : goal.returns
returns c = before_total
