use Rattle.utf16_units.proofs.TextOrderLemmas.{answers_Equal, answers_Greater, answers_Less}
use Rattle.utf16_bytes.proofs.order.compare.Goals as goal

pub returns-clause-less : goal.returns-clause-less
returns-clause-less g c = answers_Less _ _ c.compare_chars.result c.compare_chars.ensures

pub returns-clause-equal : goal.returns-clause-equal
returns-clause-equal g c = answers_Equal _ _ c.compare_chars.result c.compare_chars.ensures

pub returns-clause-greater : goal.returns-clause-greater
returns-clause-greater g c = answers_Greater _ _ c.compare_chars.result c.compare_chars.ensures
