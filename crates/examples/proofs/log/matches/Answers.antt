use Rattle.std.proofs.Common.{rules, tests}
use Rattle.std.proofs.lemmas.Iterator.{YieldsList-from_map_by, YieldsList-from_zip}
use Rattle.std.proofs.lemmas.Iterator.Consumers.{YieldsList-at, YieldsList-from_enumerate, YieldsList-from_filter, YieldsList-from_first, map_from_collect}
use Rattle.std.specs.Str.Lines.{lines}
use Rattle.utf16string.specs.WStr.{wstr_text}
use Rattle.examples.specs.Log.{match_parts}
use Rattle.examples.proofs.log.matches.Goals as goal

pub returns : goal.returns
returns g c =
    map_from_collect _ c.collect.ensures.ran (YieldsList-from_map_by _ match_parts (λ found. (found.0, found.1.0)) (YieldsList-at c.map.ensures.source (YieldsList-from_filter _ _
    (YieldsList-at c.filter.ensures.source (YieldsList-from_enumerate (YieldsList-at c.enumerate.ensures.source (YieldsList-from_zip
    (YieldsList-from_first wstr_text (λ rest. rest) (lines (wstr_text c.args.log)) cc) (YieldsList-from_first wstr_text (λ rest. rest) (lines (wstr_text c.args.folded)) cc))) c.enumerate.ensures.count))
    c.filter.ensures.closure (λ x b q k. search (rules, tests)))) c.map.ensures.closure (λ x r q k. search (rules, tests)))
