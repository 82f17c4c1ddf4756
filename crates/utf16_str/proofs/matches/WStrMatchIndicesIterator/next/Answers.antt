use Rattle.std.proofs.Common.{false, ◌≡◌, ◌∙◌, ◌+◌, ◌++◌, None, ap, arith, option_map, sym}
use Rattle.utf16_units.specs.Boundary.{text_from}
use Rattle.utf16_units.specs.Encoding.{size}
use Rattle.utf16_units.proofs.EncodingLemmas.{size-append}
use Rattle.utf16_str.specs.Matches.{left_size, left_text, match_offsets}
use Rattle.utf16_str.specs.Substrings.{parts_left}
use Rattle.utf16_str.specs.WStr.{wstr_text}
use Rattle.utf16_str.proofs.AffixLemmas.{IsCutBetween, cut_between}
use Rattle.utf16_str.proofs.MatchLemmas.{offsets-step}
use Rattle.utf16_str.proofs.NextLemmas.{closing-some, left-some, mapped-some, size-left}
use Rattle.utf16_str.proofs.SplitLemmas.{progress-part}
use Rattle.utf16_str.proofs.matches.WStrMatchIndicesIterator.next.Given.{Over}
use Rattle.utf16_str.proofs.matches.WStrMatchIndicesIterator.next.Goals as goal
use Rattle.utf16_str.proofs.matches.WStrMatchIndicesIterator.next.Goals.{After-len}

-- what is left was the part, the pattern, and what is left now
some : (g : Over) (c : After-len g) → option_map wstr_text c.next_part.new.self.rest ≡ None → ⊥
some g c = mapped-some wstr_text c.next_part.new.self.rest _ c.is_none.ensures c.if-is_none.false

closed : (g : Over) (c : After-len g) → wstr_text c.in_ok-part.closed ≡ wstr_text c.in_ok-part.part ++ g.P.Pattern.part c.next_part.new.self.pattern
closed g c =
    c.in_ok-part.ensures.closed
    ∙ ap (λ t. wstr_text c.in_ok-part.part ++ t) (closing-some (g.P.Pattern.part c.next_part.new.self.pattern) c.self.inside.left.begun (option_map wstr_text c.next_part.new.self.rest) (some g c))

long : (g : Over) (c : After-len g) → size (wstr_text c.in_ok-part.closed) ≡ size (wstr_text c.in_ok-part.part) + size (g.P.Pattern.part c.next_part.new.self.pattern)
long g c = ap size (closed g c) ∙ size-append (wstr_text c.in_ok-part.part) (g.P.Pattern.part c.next_part.new.self.pattern)

sizes : (g : Over) (c : After-len g) → left_size (option_map wstr_text c.self.inside.left.rest) ≡ size (wstr_text c.in_ok-part.closed) + left_size (option_map wstr_text c.next_part.new.self.rest)
sizes g c =
    let left = option_map wstr_text c.next_part.new.self.rest in
    omega (arith, size-left (option_map wstr_text c.self.inside.left.rest), ap size c.in_ok-part.ensures.joined, size-append (wstr_text c.in_ok-part.closed) (left_text left), size-left left)

cut : (g : Over) (c : After-len g) → IsCutBetween (wstr_text c.in_ok-part.part) (g.P.Pattern.part c.next_part.new.self.pattern) (wstr_text c.in_ok-part.closed) c.len.result
cut g c = cut_between _ _ _ _ (closed g c) (sym c.len.ensures.size)

pub overflow_add-offset : goal.overflow_add-offset
overflow_add-offset g c = omega (arith, c.self.invariant, sizes g c, long g c, c.len.ensures.size)

pub overflow_add-self : goal.overflow_add-self
overflow_add-self g c = omega (arith, c.self.invariant, sizes g (goal.at.overflow_add-self g c).After-len, c.len-2.ensures.size)

pub invariant_of-self-2 : goal.invariant_of-self-2
invariant_of-self-2 g c = omega (arith, c.self.invariant, sizes g (goal.at.invariant_of-self-2 g c).After-len, c.len-2.ensures.size)

pub returns-clause-steps : goal.returns-clause-steps
returns-clause-steps g c =
    let at = (goal.at.returns-clause-steps g c).After-len in
    let part = g.P.Pattern.part c.next_part.new.self.pattern in
    let offset = c.self.inside.offset in
    let again : c.len-3.result ≡ c.len.result = c.len-3.ensures.size ∙ sym c.len.ensures.size in
    let found : wstr_text c.split_at.result.1 ≡ part = c.split_at.ensures.back ∙ ap (text_from (wstr_text c.in_ok-part.closed)) again ∙ (cut g at).from in
    sym c.self.view_is
    ∙ ap (λ p. match_offsets (g.P.Pattern.part p) offset (parts_left false (g.P.Pattern.part c.self.inside.left.pattern) c.self.inside.left.begun (option_map wstr_text c.self.inside.left.rest))) (sym c.in_ok-part.ensures.pattern)
    ∙ ap (match_offsets part offset) c.in_ok-part.ensures.parts
    ∙ offsets-step part offset (wstr_text c.in_ok-part.part) (wstr_text c.split_at.result.1) _ _ _
    (left-some false part c.next_part.new.self.begun (option_map wstr_text c.next_part.new.self.rest) (some g at))
    (ap (λ n. offset + n) c.len.ensures.size) found (omega (arith, long g at, c.len-2.ensures.size))

pub returns-clause-goes : goal.returns-clause-goes
returns-clause-goes g c = progress-part _ (λ _. tt) _ _ _ _ (returns-clause-steps g c)
