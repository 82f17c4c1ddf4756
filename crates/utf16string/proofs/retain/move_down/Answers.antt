use Rattle.std.proofs.Common.{◌≡◌, ◌∙◌, ◌+◌, ◌++◌, ℕ, List, ap, append_assoc, arith, drop, sym, take}
use Rattle.std.proofs.Math.Seq.{take-add}
use Rattle.std.proofs.lemmas.List.{drop-drop}
use Rattle.utf16string.proofs.retain.move_down.Goals as goal

-- two units moved, one after the other
module _ (old once twice : List ℕ) (to start : ℕ) (first : take (to + 2) once ≡ take to old ++ take 2 (drop start old)) (rest : drop (start + 2) once ≡ drop (start + 2) old)
    (second : take (to + 2 + 2) twice ≡ take (to + 2) once ++ take 2 (drop (start + 2) once)) (behind : drop (start + 2 + 2) twice ≡ drop (start + 2 + 2) once) where
  four : (n : ℕ) → n + 4 ≡ n + 2 + 2
  four n = omega arith

  moved : take (to + 4) twice ≡ take to old ++ take 4 (drop start old)
  moved =
      ap (λ i. take i twice) (four to) ∙ second ∙ ap (λ l. l ++ take 2 (drop (start + 2) once)) first ∙ append_assoc (take to old) _ _
      ∙ ap (λ l. take to old ++ (take 2 (drop start old) ++ take 2 l)) (rest ∙ sym (drop-drop 2 start old))
      ∙ ap (λ l. take to old ++ l) (sym (take-add 2 2 (drop start old)))

  left : drop (start + 4) twice ≡ drop (start + 4) old
  left =
      ap (λ i. drop i twice) (four start) ∙ behind ∙ sym (drop-drop 2 (start + 2) once) ∙ ap (drop 2) rest ∙ drop-drop 2 (start + 2) old
      ∙ ap (λ i. drop i old) (sym (four start))

pub returns-then-size-eq4-clause-moved : goal.returns-then-size-eq4-clause-moved
returns-then-size-eq4-clause-moved c =
    let first = c.move_unit.ensures in
    let second = c.move_unit-then-size-eq4.ensures in
    rw c.if-size-eq4.true (moved _ _ _ c.args.to c.args.start first.moved first.rest second.moved second.rest)

pub returns-then-size-eq4-clause-rest : goal.returns-then-size-eq4-clause-rest
returns-then-size-eq4-clause-rest c =
    let first = c.move_unit.ensures in
    let second = c.move_unit-then-size-eq4.ensures in
    rw c.if-size-eq4.true (left _ _ _ c.args.to c.args.start first.moved first.rest second.moved second.rest)

pub returns-else-to-start-clause-moved : goal.returns-else-to-start-clause-moved
returns-else-to-start-clause-moved c =
    let down = c.requires.down in
    let same : c.args.to ≡ c.args.start = omega (arith, c.if-to-start.false) in
    take-add c.args.to c.args.size c.args.bytes.now ∙ ap (λ i. take c.args.to c.args.bytes.now ++ take c.args.size (drop i c.args.bytes.now)) same
