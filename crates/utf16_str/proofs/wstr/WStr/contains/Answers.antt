use Rattle.std.proofs.Common.{◌∙◌}
use Rattle.utf16_str.specs.WStr.{wstr_text}
use Rattle.utf16_str.proofs.FoundLemmas.{found_is}
use Rattle.utf16_str.proofs.SearchLemmas.{contains_is}
use Rattle.utf16_str.proofs.wstr.WStr.contains.Goals as goal

pub returns-clause-occurs : goal.returns-clause-occurs
returns-clause-occurs g c = contains_is (wstr_text c.args.self) (g.P.Pattern.part c.args.pattern) c.find.result c.is_some.result c.is_some.ensures c.find.ensures.first

pub returns-clause-value : goal.returns-clause-value
returns-clause-value g c = c.is_some.ensures ∙ found_is (wstr_text c.args.self) (g.P.Pattern.part c.args.pattern) c.find.result c.find.ensures.first
