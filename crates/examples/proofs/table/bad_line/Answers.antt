use Rattle.std.proofs.Common.{rules, tests}
use Rattle.std.proofs.lemmas.Iterator.{YieldsList-from_map_by}
use Rattle.std.proofs.lemmas.Iterator.Consumers.{YieldsList-from_first}
use Rattle.std.proofs.lemmas.Iterator.Search.{position_from_yields_List}
use Rattle.std.specs.Str.Lines.{lines}
use Rattle.utf16string.specs.WStr.{wstr_text}
use Rattle.examples.specs.Table.{said}
use Rattle.examples.proofs.table.bad_line.Goals as goal

pub returns : goal.returns
returns g c = position_from_yields_List _ _ _ _ c.position.ensures.ran (YieldsList-from_map_by _ wstr_text said (YieldsList-from_first wstr_text (λ rest. rest) (lines (wstr_text c.args.table)) cc) c.map.ensures.closure (λ x r q k. search (rules, tests))) (λ x b q k. search (rules, tests))
