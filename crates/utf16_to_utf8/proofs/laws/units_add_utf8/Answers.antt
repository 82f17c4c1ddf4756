use Rattle.utf16_to_utf8.proofs.UnitLemmas.{text_utf8}
use Rattle.utf16_to_utf8.proofs.laws.units_add_utf8.Goals as goal

pub returns : goal.returns
returns c = text_utf8
