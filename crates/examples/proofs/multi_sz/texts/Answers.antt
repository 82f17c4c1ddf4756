use Rattle.utf16_units.proofs.DelimitedLemmas.{list_begun}
use Rattle.examples.proofs.multi_sz.texts.Goals as goal

pub returns-clause-reading : goal.returns-clause-reading
returns-clause-reading g c = list_begun 0 _
