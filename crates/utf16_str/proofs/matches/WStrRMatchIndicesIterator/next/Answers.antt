use Rattle.std.proofs.Common.{true, ◌≡◌, ◌∙◌, ◌+◌, ◌-◌, ◌++◌, None, Some, ℕ, ap, arith, option_map, rules, sym}
use Rattle.utf16_units.specs.Encoding.{size}
use Rattle.utf16_units.proofs.EncodingLemmas.{size-append}
use Rattle.utf16_str.specs.Matches.{closing, left_size, left_text, rmatch_offsets}
use Rattle.utf16_str.specs.Substrings.{parts_left}
use Rattle.utf16_str.specs.WStr.{wstr_text}
use Rattle.utf16_str.proofs.AffixLemmas.{IsCutBetween, cut_between}
use Rattle.utf16_str.proofs.MatchLemmas.{roffsets-step}
use Rattle.utf16_str.proofs.NextLemmas.{left-some, size-left}
use Rattle.utf16_str.proofs.SplitLemmas.{progress-part}
use Rattle.utf16_str.proofs.matches.WStrRMatchIndicesIterator.next.Given.{Over}
use Rattle.utf16_str.proofs.matches.WStrRMatchIndicesIterator.next.Goals as goal
use Rattle.utf16_str.proofs.matches.WStrRMatchIndicesIterator.next.Goals.{In_ok-before}

-- what is left was what is left now, the pattern, and the part
rest : (g : Over) (c : In_ok-before g) → c.next_part.new.self.rest ≡ Some c.in_ok-before.before
rest g c = search rules

closed : (g : Over) (c : In_ok-before g) → wstr_text c.in_ok-part.closed ≡ g.P.Pattern.part c.next_part.new.self.pattern ++ wstr_text c.in_ok-part.part
closed g c = c.in_ok-part.ensures.closed ∙ ap (λ o. closing (g.P.Pattern.part c.next_part.new.self.pattern) (option_map wstr_text o) ++ wstr_text c.in_ok-part.part) (rest g c)

long : (g : Over) (c : In_ok-before g) → size (wstr_text c.in_ok-part.closed) ≡ size (g.P.Pattern.part c.next_part.new.self.pattern) + size (wstr_text c.in_ok-part.part)
long g c = ap size (closed g c) ∙ size-append (g.P.Pattern.part c.next_part.new.self.pattern) (wstr_text c.in_ok-part.part)

now : (g : Over) (c : In_ok-before g) → left_size (option_map wstr_text c.next_part.new.self.rest) ≡ size (wstr_text c.in_ok-before.before)
now g c = ap (λ o. left_size (option_map wstr_text o)) (rest g c)

sizes : (g : Over) (c : In_ok-before g) → left_size (option_map wstr_text c.self.inside.left.rest) ≡ size (wstr_text c.in_ok-before.before) + size (wstr_text c.in_ok-part.closed)
sizes g c =
    let left = option_map wstr_text c.next_part.new.self.rest in
    omega (arith, size-left (option_map wstr_text c.self.inside.left.rest), ap size c.in_ok-part.ensures.joined, size-append (left_text left) (wstr_text c.in_ok-part.closed), size-left left, now g c)

cut : (g : Over) (c : In_ok-before g) (start : ℕ) → size (g.P.Pattern.part c.next_part.new.self.pattern) ≡ start
    → IsCutBetween (g.P.Pattern.part c.next_part.new.self.pattern) (wstr_text c.in_ok-part.part) (wstr_text c.in_ok-part.closed) start
cut g c start at = cut_between _ _ _ start (closed g c) at

pub overflow_sub-len : goal.overflow_sub-len
overflow_sub-len g c = omega (arith, long g (goal.at.overflow_sub-len g c).In_ok-before, c.len.ensures.size, c.len-2.ensures.size)

pub split_at-requires : goal.split_at-requires
split_at-requires g c =
    let at = (goal.at.split_at-requires g c).In_ok-before in
    (cut g at (c.len.result - c.len-2.result) (omega (arith, long g at, c.len.ensures.size, c.len-2.ensures.size))).boundary

pub returns-clause-steps : goal.returns-clause-steps
returns-clause-steps g c =
    let at = (goal.at.returns-clause-steps g c).In_ok-before in
    let part = g.P.Pattern.part c.next_part.new.self.pattern in
    let new = c.next_part.new.self in
    let end = left_size (option_map wstr_text c.self.inside.left.rest) in
    let some : option_map wstr_text new.rest ≡ None → ⊥ = λ none. absurd (cc (sym (ap (option_map wstr_text) (rest g at)) ∙ none)) in
    let found : wstr_text c.split_at.result.0 ≡ part = c.split_at.ensures.front ∙ (cut g at (c.len.result - c.len-2.result) (omega (arith, long g at, c.len.ensures.size, c.len-2.ensures.size))).to in
    sym c.self.view_is
    ∙ ap (λ p. rmatch_offsets (g.P.Pattern.part p) end (parts_left true (g.P.Pattern.part c.self.inside.left.pattern) c.self.inside.left.begun (option_map wstr_text c.self.inside.left.rest))) (sym c.in_ok-part.ensures.pattern)
    ∙ ap (rmatch_offsets part end) c.in_ok-part.ensures.parts
    ∙ roffsets-step part end (wstr_text c.in_ok-part.part) (wstr_text c.split_at.result.0) _ _ _ (left-some true part new.begun (option_map wstr_text new.rest) some)
    (omega (arith, sizes g at, long g at, c.len-3.ensures.size)) found (omega (arith, sizes g at, long g at, now g at))

pub returns-clause-goes : goal.returns-clause-goes
returns-clause-goes g c = progress-part _ (λ _. tt) _ _ _ _ (returns-clause-steps g c)
