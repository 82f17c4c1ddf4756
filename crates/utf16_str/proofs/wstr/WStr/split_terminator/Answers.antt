use Rattle.std.proofs.Common.{◌≡◌, ◌∙◌, ap, arith, false, option_map, rules, sym}
use Rattle.utf16_str.specs.Substrings.{joined_with, parts_left, split_by}
use Rattle.utf16_str.specs.WStr.{wstr_text}
use Rattle.utf16_str.proofs.MatchLemmas.{length-without}
use Rattle.utf16_str.proofs.SplitLemmas.{text_runs}
use Rattle.utf16_str.proofs.JoinLemmas.{join-parts}
use Rattle.utf16_str.proofs.PartWindows.{few_between, yields_parts}
use Rattle.utf16_str.proofs.WithinLemmas.{placed-parts, placed-without}
use Rattle.utf16_str.proofs.wstr.WStr.split_terminator.Goals as goal

pub returns-clause-bound : goal.returns-clause-bound
returns-clause-bound g c =
    let parts = parts_left false (g.P.Pattern.part c.new.result.pattern) c.new.result.begun (option_map wstr_text c.new.result.rest) in
    omega (arith, length-without parts, few_between c.args.self false (g.P.Pattern.part c.args.terminator) parts (search rules) (omega arith))

pub returns-clause-runs : goal.returns-clause-runs
returns-clause-runs g c = text_runs wstr_text

pub returns-clause-within : goal.returns-clause-within
returns-clause-within g c =
    let made : parts_left false (g.P.Pattern.part c.new.result.pattern) c.new.result.begun (option_map wstr_text c.new.result.rest) ≡ split_by (g.P.Pattern.part c.args.terminator) (wstr_text c.args.self) = search rules in
    let text = wstr_text c.args.self in
    let part = g.P.Pattern.part c.args.terminator in
    yields_parts c.args.self _ _ (placed-without text _ 0 _ (placed-parts part text _ (sym (ap (joined_with part) made ∙ join-parts part false text))))
