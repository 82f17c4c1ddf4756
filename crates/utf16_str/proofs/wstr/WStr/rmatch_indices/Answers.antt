use Rattle.std.proofs.Common.{true, All, arith, false, option_map, rules, subst, sym}
use Rattle.utf16_str.specs.Matches.{left_size}
use Rattle.utf16_str.specs.Substrings.{parts_left, rsplit_by}
use Rattle.utf16_str.specs.WStr.{wstr_text}
use Rattle.utf16_str.proofs.JoinLemmas.{join-rparts}
use Rattle.utf16_str.proofs.MatchLemmas.{length-roffsets}
use Rattle.utf16_str.proofs.PartWindows.{few_between, yields_parts_at}
use Rattle.utf16_str.proofs.SplitLemmas.{text_runs}
use Rattle.utf16_str.proofs.WithinLemmas.{WithinAt, within-rat}
use Rattle.utf16_str.proofs.wstr.WStr.rmatch_indices.Goals as goal

pub returns-clause-bound : goal.returns-clause-bound
returns-clause-bound g c =
    let parts = parts_left true (g.P.Pattern.part c.new.result.pattern) c.new.result.begun (option_map wstr_text c.new.result.rest) in
    let end = left_size (option_map wstr_text c.new.result.rest) in
    omega (arith, length-roffsets (g.P.Pattern.part c.new.result.pattern) end parts, few_between c.args.self true (g.P.Pattern.part c.args.pattern) parts (search rules) (omega arith))

pub returns-clause-runs : goal.returns-clause-runs
returns-clause-runs g c = text_runs (λ at. (at.0, wstr_text at.1))

pub returns-clause-within : goal.returns-clause-within
returns-clause-within g c =
    let part = g.P.Pattern.part c.args.pattern in
    let text = wstr_text c.args.self in
    let found = within-rat part text (rsplit_by part text) (sym (join-rparts part false text)) in
    yields_parts_at c.args.self _ (subst (All (λ at. WithinAt text at.0 at.1)) (sym (search rules)) found)
