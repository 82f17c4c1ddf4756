use Rattle.std.proofs.Common.{rules, tests}
use Rattle.std.proofs.lemmas.Iterator.{YieldsList-from_map_by}
use Rattle.std.proofs.lemmas.Iterator.Consumers.{YieldsList-at, YieldsList-from_filter, YieldsList-from_first, map_from_collect}
use Rattle.std.specs.Str.Lines.{lines}
use Rattle.utf16string.specs.WStr.{wstr_text}
use Rattle.examples.specs.Table.{entry_in, entry_texts, said}
use Rattle.examples.proofs.table.good_lines.Goals as goal

pub returns : goal.returns
returns g c =
    map_from_collect _ c.collect.ensures.ran (YieldsList-from_map_by _ entry_texts (entry_in c.args.separator) (YieldsList-at c.map-2.ensures.source (YieldsList-from_filter _ _
    (YieldsList-at c.filter.ensures.source (YieldsList-from_map_by _ wstr_text said (YieldsList-from_first wstr_text (λ rest. rest) (lines (wstr_text c.args.table)) cc) c.map.ensures.closure (λ x r q k. search (rules, tests))))
    c.filter.ensures.closure (λ x b q k. search (rules, tests)))) c.map-2.ensures.closure (λ x r q k. search (rules, tests)))
