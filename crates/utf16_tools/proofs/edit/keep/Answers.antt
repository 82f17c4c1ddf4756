use Rattle.std.proofs.Common.{rules}
use Rattle.std.proofs.lemmas.Fn.{filter_same}
use Rattle.utf16_tools.proofs.edit.keep.Goals as goal

pub returns-clause-text : goal.returns-clause-text
returns-clause-text g c = filter_same _ _ _ (λ x b f' k. search rules) _ _ c.retain.ensures.text
