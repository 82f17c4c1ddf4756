use Rattle.std.proofs.Common.{arith, false, map, ℕ, List, subst, sym}
use Rattle.std.proofs.lemmas.List.{length-map}
use Rattle.utf16_str.specs.Substrings.{split_by}
use Rattle.utf16_str.specs.Matches.{match_offsets}
use Rattle.utf16_str.specs.WStr.{wstr_text}
use Rattle.utf16_str.proofs.JoinLemmas.{join-parts}
use Rattle.utf16_str.proofs.PartWindows.{yields_parts}
use Rattle.utf16_str.proofs.SplitLemmas.{text_runs}
use Rattle.utf16_str.proofs.WithinLemmas.{Placed, placed-pairs, within-at}
use Rattle.utf16_str.proofs.wstr.WStr.matches.Goals as goal

pub returns-clause-bound : goal.returns-clause-bound
returns-clause-bound g c = omega (arith, length-map c.match_indices.result (λ at. at.1), c.match_indices.ensures.bound)

pub returns-clause-runs : goal.returns-clause-runs
returns-clause-runs g c = text_runs wstr_text

pub returns-clause-within : goal.returns-clause-within
returns-clause-within g c =
    let part = g.P.Pattern.part c.args.pattern in
    let text = wstr_text c.args.self in
    let found = within-at part text (split_by part text) (sym (join-parts part false text)) in
    yields_parts c.args.self _ _
    (subst (λ (left : List (ℕ × List ℕ)). Placed text (map (λ at. at.0) (match_offsets part 0 (split_by part text))) (map (λ at. at.1) left))
    (sym c.match_indices.ensures.parts) (placed-pairs text _ found))
