use Rattle.std.proofs.Common.{◌≡◌, ap, arith, false, option_map, rules, sym, ◌∙◌}
use Rattle.utf16_str.specs.Substrings.{joined_with, parts_left, split_by}
use Rattle.utf16_str.specs.WStr.{wstr_text}
use Rattle.utf16_str.proofs.MatchLemmas.{length-with}
use Rattle.utf16_str.proofs.SplitLemmas.{text_runs}
use Rattle.utf16_str.proofs.PartWindows.{few_between, yields_parts}
use Rattle.utf16_str.proofs.JoinLemmas.{join-parts}
use Rattle.utf16_str.proofs.WithinLemmas.{placed-ended}
use Rattle.utf16_str.proofs.wstr.WStr.split_inclusive.Goals as goal

pub returns-clause-bound : goal.returns-clause-bound
returns-clause-bound g c =
    let parts = parts_left false (g.P.Pattern.part c.new.result.pattern) c.new.result.begun (option_map wstr_text c.new.result.rest) in
    omega (arith, length-with (g.P.Pattern.part c.new.result.pattern) parts, few_between c.args.self false (g.P.Pattern.part c.args.terminator) parts (search rules) (omega arith))

pub returns-clause-runs : goal.returns-clause-runs
returns-clause-runs g c = text_runs wstr_text

pub returns-clause-within : goal.returns-clause-within
returns-clause-within g c =
    let text = wstr_text c.args.self in
    let part = g.P.Pattern.part c.new.result.pattern in
    let made : parts_left false part c.new.result.begun (option_map wstr_text c.new.result.rest) ≡ split_by part text = search rules in
    yields_parts c.args.self _ _ (placed-ended part text _ (sym (join-parts part false text) ∙ ap (joined_with part) (sym made)))
