use Rattle.std.proofs.Common.{◌≡◌, All, ap₂, arith, false, option_map, rules, subst, sym}
use Rattle.utf16_units.specs.Encoding.{size}
use Rattle.utf16_units.proofs.EncodingLemmas.{IsUtf16-from_is_utf16, length-text}
use Rattle.utf16_str.specs.Matches.{left_size, match_offsets}
use Rattle.utf16_str.specs.Substrings.{parts_left, split_by}
use Rattle.utf16_str.specs.WStr.{wstr_text}
use Rattle.utf16_str.proofs.JoinLemmas.{join-parts}
use Rattle.utf16_str.proofs.MatchLemmas.{length-offsets}
use Rattle.utf16_str.proofs.PartWindows.{few_between, yields_parts_at}
use Rattle.utf16_str.proofs.SplitLemmas.{text_runs}
use Rattle.utf16_str.proofs.WithinLemmas.{WithinAt, within-at}
use Rattle.utf16_str.proofs.wstr.WStr.match_indices.Goals as goal

pub returns-clause-bound : goal.returns-clause-bound
returns-clause-bound g c =
    let parts = parts_left false (g.P.Pattern.part c.new.result.pattern) c.new.result.begun (option_map wstr_text c.new.result.rest) in
    omega (arith, length-offsets (g.P.Pattern.part c.new.result.pattern) 0 parts, few_between c.args.self false (g.P.Pattern.part c.args.pattern) parts (search rules) (omega arith))

pub returns-clause-runs : goal.returns-clause-runs
returns-clause-runs g c = text_runs (λ at. (at.0, wstr_text at.1))

pub returns-clause-within : goal.returns-clause-within
returns-clause-within g c =
    let part = g.P.Pattern.part c.args.pattern in
    let text = wstr_text c.args.self in
    let made : parts_left false (g.P.Pattern.part c.new.result.pattern) c.new.result.begun (option_map wstr_text c.new.result.rest) ≡ split_by part text = search rules in
    let same : g.P.Pattern.part c.new.result.pattern ≡ part = search rules in
    yields_parts_at c.args.self _ (subst (All (λ at. WithinAt text at.0 at.1)) (sym (ap₂ (λ p parts. match_offsets p 0 parts) same made)) (within-at part text (split_by part text) (sym (join-parts part false text))))

pub invariant_of-result : goal.invariant_of-result
invariant_of-result g c =
    let left : left_size (option_map wstr_text c.new.result.rest) ≡ size (wstr_text c.args.self) = search rules in
    omega (arith, left, length-text _ _ (IsUtf16-from_is_utf16 _ _ c.args.self.well_formed), c.ranges.self.0)
