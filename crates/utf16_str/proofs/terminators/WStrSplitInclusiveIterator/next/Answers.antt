use Rattle.std.proofs.Common.{false, ◌≡◌, ◌∙◌, [], None, ap, option_map, sym}
use Rattle.std.proofs.lemmas.Bool.{false≢true}
use Rattle.utf16_str.specs.Matches.{with_terminators}
use Rattle.utf16_str.specs.Substrings.{parts_left}
use Rattle.utf16_str.specs.WStr.{wstr_text}
use Rattle.utf16_str.proofs.NextLemmas.{mapped-some, with-next}
use Rattle.utf16_str.proofs.SplitLemmas.{progress-part}
use Rattle.utf16_str.proofs.terminators.WStrSplitInclusiveIterator.next.Goals as goal
use Rattle.utf16_str.proofs.terminators.WStrSplitInclusiveIterator.next.Goals.{else-is_none-via-then-is_none+else-is_empty, else-is_none-via-else-is_none}

pub returns-clause-steps : goal.returns-clause-steps
returns-clause-steps g c =
    let part = g.P.Pattern.part c.next_part.new.self.pattern in
    let rest = c.next_part.new.self.rest in
    let some : option_map wstr_text rest ≡ None → ¬ (wstr_text c.in_ok-part.part ≡ []) = elim c.else-is_none.branch [
      | else-is_none-via-then-is_none+else-is_empty w ↦ λ none nil. false≢true (sym w.if-is_empty.false ∙ w.is_empty.ensures.empty.1 nil)
      | else-is_none-via-else-is_none w ↦ λ none. absurd (mapped-some wstr_text rest _ c.is_none.ensures w.if-is_none.false none)
    ] in
    sym c.self.view_is
    ∙ ap (λ p. with_terminators (g.P.Pattern.part p) (parts_left false (g.P.Pattern.part c.self.inside.left.pattern) c.self.inside.left.begun (option_map wstr_text c.self.inside.left.rest))) (sym c.in_ok-part.ensures.pattern)
    ∙ ap (with_terminators part) c.in_ok-part.ensures.parts
    ∙ with-next part c.next_part.new.self.begun (wstr_text c.in_ok-part.field-0-0) (wstr_text c.in_ok-part.part) (option_map wstr_text rest) c.in_ok-part.ensures.closed some

pub returns-clause-goes : goal.returns-clause-goes
returns-clause-goes g c = progress-part _ (λ _. tt) _ _ _ _ (returns-clause-steps g c)
