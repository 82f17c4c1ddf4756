use Rattle.std.proofs.Common.{false, true, ◌∙◌, ◌∷◌, ◌++◌, [], List, ap, option_map, refl, subst, sym, ℕ}
use Rattle.std.specs.Iterator.{YieldsLastBy}
use Rattle.utf16_str.specs.Substrings.{parts_left}
use Rattle.utf16_str.specs.WStr.{wstr_text}
use Rattle.utf16_str.proofs.BackNext.{back-none, back-some}
use Rattle.utf16_str.proofs.split.WStrPartsCharForwardDoubleEndedIterator.next_back.Goals as goal

pub returns-in_err-part-clause-steps : goal.returns-in_err-part-clause-steps
returns-in_err-part-clause-steps g c =
    let left = c.self.inside.left in
    let new = c.next_part.new.self in
    let delimiter = new.pattern in
    let none = sym c.self.view_is ∙ back-none left.pattern left.begun (option_map wstr_text left.rest) c.in_err-part.ensures.parts in
    let done = ap (λ o. parts_left false (delimiter ∷ []) new.begun (option_map wstr_text o)) (c.in_err-part.ensures.done refl) in
    subst (λ r. YieldsLastBy wstr_text (λ (rest : List (List ℕ)). rest) c.args.self.now r (parts_left false (delimiter ∷ []) new.begun (option_map wstr_text new.rest))) (sym c.from_residual.ensures) (none, done)

pub returns-clause-steps : goal.returns-clause-steps
returns-clause-steps g c =
    let left = c.self.inside.left in
    let new = c.next_part.new.self in
    let rest = option_map wstr_text new.rest in
    let text = wstr_text c.in_ok-part.part in
    let same = c.in_ok-part.ensures.pattern in
    let parts = c.in_ok-part.ensures.parts ∙ ap (λ p. text ∷ parts_left true (p ∷ []) new.begun rest) same in
    sym c.self.view_is ∙ back-some left.pattern left.begun new.begun (option_map wstr_text left.rest) rest text parts
    ∙ ap (λ p. parts_left false (p ∷ []) new.begun rest ++ text ∷ []) (sym same)
