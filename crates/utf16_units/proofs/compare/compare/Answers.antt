use Rattle.std.proofs.Common.{◌∙◌}
use Rattle.utf16_units.proofs.TextOrderLemmas.{answers_Equal, answers_Greater, answers_Less}
use Rattle.utf16_units.proofs.RankLemmas.{ranked_bytes}
use Rattle.utf16_units.proofs.compare.compare.Goals as goal

pub returns-clause-computed : goal.returns-clause-computed
returns-clause-computed g c = c.compare_units.ensures ∙ ranked_bytes g.E.Utf16Order.BIG c.args.first.now c.args.second.now c.requires.first_well_formed c.requires.second_well_formed

pub returns-clause-less : goal.returns-clause-less
returns-clause-less g c = answers_Less _ _ c.compare_units.result (returns-clause-computed g c)

pub returns-clause-equal : goal.returns-clause-equal
returns-clause-equal g c = answers_Equal _ _ c.compare_units.result (returns-clause-computed g c)

pub returns-clause-greater : goal.returns-clause-greater
returns-clause-greater g c = answers_Greater _ _ c.compare_units.result (returns-clause-computed g c)
