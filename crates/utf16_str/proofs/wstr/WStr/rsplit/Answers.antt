use Rattle.std.proofs.Common.{◌≡◌, ◌∙◌, ap, arith, false, option_map, rules, sym, true}
use Rattle.utf16_str.specs.Substrings.{parts_left, rjoined_with, rsplit_by}
use Rattle.utf16_str.specs.WStr.{wstr_text}
use Rattle.utf16_str.proofs.JoinLemmas.{join-rparts}
use Rattle.utf16_str.proofs.PartWindows.{few_between, yields_parts}
use Rattle.utf16_str.proofs.SplitLemmas.{text_runs}
use Rattle.utf16_str.proofs.WithinLemmas.{placed-rparts}
use Rattle.utf16_str.proofs.wstr.WStr.rsplit.Goals as goal

pub returns-clause-bound : goal.returns-clause-bound
returns-clause-bound g c = few_between c.args.self true (g.P.Pattern.part c.args.delimiter) _ (search rules) (omega arith)

pub returns-clause-runs : goal.returns-clause-runs
returns-clause-runs g c = text_runs wstr_text

pub returns-clause-within : goal.returns-clause-within
returns-clause-within g c =
    let text = wstr_text c.args.self in
    let part = g.P.Pattern.part c.args.delimiter in
    let made : parts_left true (g.P.Pattern.part c.new.result.pattern) c.new.result.begun (option_map wstr_text c.new.result.rest) ≡ rsplit_by part text = search rules in
    yields_parts c.args.self _ _ (placed-rparts part text _ (sym (ap (rjoined_with part) made ∙ join-rparts part false text)))
