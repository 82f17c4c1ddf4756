use Rattle.std.proofs.Common.{◌∙◌, ap, cond}
use Rattle.std.specs.Ordering.{is_lt}
use Rattle.utf16_units.proofs.TextOrderLemmas.{Greater-from_before, Less-from_before}
use Rattle.uses_strings.proofs.sorted.later.Goals as goal

pub returns-clause-less : goal.returns-clause-less
returns-clause-less g c before = c.max_of.ensures ∙ ap (λ o. cond (is_lt o) c.args.first c.args.second) (Greater-from_before _ _ before)

pub returns-clause-greater : goal.returns-clause-greater
returns-clause-greater g c behind = c.max_of.ensures ∙ ap (λ o. cond (is_lt o) c.args.first c.args.second) (Less-from_before _ _ behind)
