use Rattle.std.proofs.Common.{◌≡◌, ◌≢◌, ℕ, List, [], ◌∷◌, ◌++◌, ◌∙◌, Some, ap, option_map, rules, subst, sym}
use Rattle.std.proofs.lemmas.Bool.{false≢true}
use Rattle.std.specs.Iterator.{YieldsLastBy}
use Rattle.std.specs.Str.Lines.{lines}
use Rattle.utf16_str.specs.Substrings.{lines_left}
use Rattle.utf16_str.specs.WStr.{wstr_text}
use Rattle.utf16_str.proofs.BackLines.{lines-closed, lines-none, lines-rest}
use Rattle.utf16_str.proofs.LineLemmas.{lines-nil, strip-or}
use Rattle.utf16_str.proofs.NextLemmas.{progress-any-back}
use Rattle.utf16_str.proofs.SplitLemmas.{progress-part-back}
use Rattle.utf16_str.proofs.lines.WStrLinesDoubleEndedIterator.next_back.Goals as goal
use Rattle.utf16_str.proofs.lines.WStrLinesDoubleEndedIterator.next_back.Goals.{then-is_empty, else-is_empty}

pub returns-in_default-clause-steps : goal.returns-in_default-clause-steps
returns-in_default-clause-steps g c =
    let rest : c.self.inside.rest ≡ Some c.in_ok-rest.rest = search rules in
    let all : c.args.self.now ≡ lines (wstr_text c.in_ok-rest.rest) = sym c.self.view_is ∙ ap (λ o. lines_left (option_map wstr_text o)) rest in
    let parts = c.split_last_line.ensures in
    let before = wstr_text c.split_last_line.result.0 in
    let line = wstr_text c.split_last_line.result.1 in
    elim c.if-is_empty.branch [
      | then-is_empty w ↦
          let none : line ≡ [] = c.is_empty.ensures.empty.0 w.if-is_empty.true in
          let nothing = lines-none (wstr_text c.in_ok-rest.rest) before line parts.joined parts.ended none (λ front e. false≢true (c.in_default.ensures.some.1 (front, e))) in
          subst (λ r. YieldsLastBy wstr_text (λ (texts : List (List ℕ)). texts) c.args.self.now r (lines before)) (sym w.result-is)
          (all ∙ lines-nil _ nothing.0, lines-nil _ nothing.1)
      | else-is_empty w ↦
          let some : line ≢ [] = λ nil. false≢true (sym w.if-is_empty.false ∙ c.is_empty.ensures.empty.1 nil) in
          subst (λ r. YieldsLastBy wstr_text (λ (texts : List (List ℕ)). texts) c.args.self.now r (lines before)) (sym w.result-is)
          (all ∙ lines-rest (wstr_text c.in_ok-rest.rest) before line parts.joined parts.ended parts.line some)
    ]

pub returns-in_default-clause-goes : goal.returns-in_default-clause-goes
returns-in_default-clause-goes g c = progress-any-back wstr_text _ (λ _. tt) _ _ _ (returns-in_default-clause-steps g c)

pub returns-clause-steps : goal.returns-clause-steps
returns-clause-steps g c =
    let rest : c.self.inside.rest ≡ Some c.in_ok-rest.rest = search rules in
    let all : c.args.self.now ≡ lines (wstr_text c.in_ok-rest.rest) = sym c.self.view_is ∙ ap (λ o. lines_left (option_map wstr_text o)) rest in
    let parts = c.split_last_line-2.ensures in
    let before = wstr_text c.split_last_line-2.result.0 in
    all ∙ lines-closed (wstr_text c.in_ok-rest.rest) (wstr_text c.in-Some.closed) before (wstr_text c.split_last_line-2.result.1) c.in-Some.ensures.text parts.joined parts.ended parts.line
    ∙ ap (λ t. lines before ++ t ∷ []) (sym (ap wstr_text c.unwrap_or-line.ensures ∙ strip-or wstr_text _ _ c.strip_suffix-2.ensures.some c.strip_suffix-2.ensures.text))

pub returns-clause-goes : goal.returns-clause-goes
returns-clause-goes g c = progress-part-back _ (λ _. tt) _ _ _ _ (returns-clause-steps g c)
