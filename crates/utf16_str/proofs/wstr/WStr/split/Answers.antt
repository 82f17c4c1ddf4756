use Rattle.std.proofs.Common.{◌≡◌, arith, false, option_map, rules, subst, sym}
use Rattle.utf16_str.specs.Substrings.{EachLacks, joined_with, parts_left, split_by}
use Rattle.utf16_str.specs.WStr.{wstr_text}
use Rattle.utf16_str.proofs.CountLemmas.{each_lacks}
use Rattle.utf16_str.proofs.JoinLemmas.{join-parts}
use Rattle.utf16_str.proofs.SplitLemmas.{text_runs, text_runs_back}
use Rattle.utf16_str.proofs.PartWindows.{few_between, yields_parts, yields_parts_back}
use Rattle.utf16_str.proofs.WithinLemmas.{placed-parts}
use Rattle.utf16_str.proofs.wstr.WStr.split.Goals as goal

pub returns-clause-joined : goal.returns-clause-joined
returns-clause-joined g c =
    let made : parts_left false (g.P.Pattern.part c.new.result.pattern) c.new.result.begun (option_map wstr_text c.new.result.rest) ≡ split_by (g.P.Pattern.part c.args.delimiter) (wstr_text c.args.self) = search rules in
    let part = g.P.Pattern.part c.args.delimiter in
    subst (λ parts. joined_with part parts ≡ wstr_text c.args.self) (sym made) (join-parts part false (wstr_text c.args.self))

pub returns-clause-lack : goal.returns-clause-lack
returns-clause-lack g c =
    let made : parts_left false (g.P.Pattern.part c.new.result.pattern) c.new.result.begun (option_map wstr_text c.new.result.rest) ≡ split_by (g.P.Pattern.part c.args.delimiter) (wstr_text c.args.self) = search rules in
    let part = g.P.Pattern.part c.args.delimiter in
    subst (EachLacks part) (sym made) (each_lacks part (wstr_text c.args.self))

pub returns-clause-bound : goal.returns-clause-bound
returns-clause-bound g c = few_between c.args.self false (g.P.Pattern.part c.args.delimiter) _ (search rules) (omega arith)

pub returns-clause-runs : goal.returns-clause-runs
returns-clause-runs g c = text_runs wstr_text

pub returns-clause-runs_back : goal.returns-clause-runs_back
returns-clause-runs_back g c = text_runs_back wstr_text

pub returns-clause-within : goal.returns-clause-within
returns-clause-within g c = yields_parts c.args.self _ _ (placed-parts (g.P.Pattern.part c.args.delimiter) (wstr_text c.args.self) _ (sym (returns-clause-joined g c)))

pub returns-clause-within_back : goal.returns-clause-within_back
returns-clause-within_back g c =
    yields_parts_back c.args.self _ _ (placed-parts (g.P.Pattern.part c.args.delimiter) (wstr_text c.args.self) _ (sym (returns-clause-joined g c)))
