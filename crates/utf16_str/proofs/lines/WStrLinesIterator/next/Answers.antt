use Rattle.std.proofs.Common.{◌≡◌, ◌≢◌, ℕ, List, [], Some, rules, refl, subst, sym, ap, ◌∙◌, ◌∷◌, option_map}
use Rattle.std.specs.Iterator.{YieldsFirstBy}
use Rattle.std.specs.Str.Lines.{lines}
use Rattle.utf16_units.specs.Delimited.{Lacks}
use Rattle.utf16_str.specs.Substrings.{lines_left}
use Rattle.utf16_str.specs.WStr.{wstr_text}
use Rattle.utf16_str.proofs.LineLemmas.{lines-first, lines-last, lines-nil, strip-or}
use Rattle.utf16_str.proofs.SplitLemmas.{progress-part}
use Rattle.utf16_str.proofs.lines.WStrLinesIterator.next.Goals as goal
use Rattle.utf16_str.proofs.lines.WStrLinesIterator.next.Goals.{then-is_empty, else-is_empty}

pub returns-in_default-clause-steps : goal.returns-in_default-clause-steps
returns-in_default-clause-steps g c =
    let rest : c.self.inside.rest ≡ Some c.in_ok-rest.rest = search rules in
    let lacks : Lacks 10 (wstr_text c.in_ok-rest.rest) = search rules in
    let all : lines (wstr_text c.in_ok-rest.rest) ≡ c.args.self.now = sym (ap (λ o. lines_left (option_map wstr_text o)) rest) ∙ c.self.view_is in
    elim c.if-is_empty.branch [
      | then-is_empty w ↦
          let none : wstr_text c.in_ok-rest.rest ≡ [] = search rules in
          subst (λ r. YieldsFirstBy wstr_text (λ (texts : List (List ℕ)). texts) c.args.self.now r []) (sym w.result-is) (sym all ∙ lines-nil _ none, refl)
      | else-is_empty w ↦
          let some : wstr_text c.in_ok-rest.rest ≢ [] = search rules in
          subst (λ r. YieldsFirstBy wstr_text (λ (texts : List (List ℕ)). texts) c.args.self.now r []) (sym w.result-is) (sym all ∙ lines-last _ lacks some)
    ]

pub returns-clause-steps : goal.returns-clause-steps
returns-clause-steps g c =
    let rest : c.self.inside.rest ≡ Some c.in_ok-rest.rest = search rules in
    let line = lines-first _ _ _ c.in-Some.ensures.split c.in-Some.ensures.first in
    sym c.self.view_is ∙ ap (λ o. lines_left (option_map wstr_text o)) rest ∙ line
    ∙ ap (λ t. t ∷ lines (wstr_text c.in-Some.after)) (sym (ap wstr_text c.unwrap_or.ensures ∙ strip-or wstr_text _ _ c.strip_suffix.ensures.some c.strip_suffix.ensures.text))

pub returns-clause-goes : goal.returns-clause-goes
returns-clause-goes g c = progress-part _ (λ _. tt) _ _ _ _ (returns-clause-steps g c)
