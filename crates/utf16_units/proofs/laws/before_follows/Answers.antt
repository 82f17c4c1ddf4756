use Rattle.utf16_units.proofs.TextOrderLemmas.{before_follows}
use Rattle.utf16_units.proofs.laws.before_follows.Goals as goal

pub returns : goal.returns
returns c = before_follows
