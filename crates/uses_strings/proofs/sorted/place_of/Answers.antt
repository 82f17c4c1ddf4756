use Rattle.std.proofs.Common.{refl}
use Rattle.std.proofs.lemmas.Result.{IfOk-weaker}
use Rattle.utf16_units.proofs.TextOrderLemmas.{answers_Equal}
use Rattle.uses_strings.proofs.sorted.place_of.Goals as goal

pub returns : goal.returns
returns g c = IfOk-weaker c.searched.result _ _ (λ i equal d. (answers_Equal _ _ _ refl).0 (equal d)) c.searched.ensures.found
