use Rattle.std.proofs.Common.{◌≡◌, true, ◌*◌, ◌/◌, ⊎_elim, sym, ◌∙◌, subst, arith}
use Rattle.std.proofs.lemmas.Bool.{cases_eq}
use Rattle.utf16_units.specs.Boundary.{IsBoundary}
use Rattle.utf16_units.specs.Unit.{IsTrailing}
use Rattle.utf16_units.proofs.BackChar.{boundary_at_unit, first_unit-drop, length-even}
use Rattle.utf16_units.proofs.PartLemmas.{IsBoundary-even}
use Rattle.utf16_transcode.proofs.EncodePrefixLemmas.{boundary_before, no_boundary}
use Rattle.utf16_transcode.proofs.encode.last_boundary.Goals as goal

pub bounds-utf16-whole-2 : goal.bounds-utf16-whole-2
bounds-utf16-whole-2 g c = omega (arith, c.requires.inside, length-even g.E.Utf16Order.BIG c.args.utf16.now c.requires.text)

pub overflow_sub-result : goal.overflow_sub-result
overflow_sub-result g c =
    let whole = c.args.at / 2 * 2 in
    let trailing = subst IsTrailing (c.read_unit.ensures ∙ sym (first_unit-drop g.E.Utf16Order.BIG c.args.utf16.now whole)) (c.is_trailing_surrogate.ensures.0 c.if-is_trailing_surrogate.true) in
    (boundary_before g.E.Utf16Order.BIG c.args.utf16.now whole c.requires.text (omega arith) (omega (arith, c.requires.inside)) trailing).0

pub returns-then-is_trailing_surrogate-clause-boundary : goal.returns-then-is_trailing_surrogate-clause-boundary
returns-then-is_trailing_surrogate-clause-boundary g c =
    let whole = c.args.at / 2 * 2 in
    let trailing = subst IsTrailing (c.read_unit.ensures ∙ sym (first_unit-drop g.E.Utf16Order.BIG c.args.utf16.now whole)) (c.is_trailing_surrogate.ensures.0 c.if-is_trailing_surrogate.true) in
    (boundary_before g.E.Utf16Order.BIG c.args.utf16.now whole c.requires.text (omega arith) (omega (arith, c.requires.inside)) trailing).1

pub returns-clause-boundary : goal.returns-clause-boundary
returns-clause-boundary g c =
    let whole = c.args.at / 2 * 2 in
    boundary_at_unit g.E.Utf16Order.BIG c.args.utf16.now whole c.requires.text (omega (arith, c.requires.inside)) (omega arith)
    (λ trailing.
    let yes : c.is_trailing_surrogate.result ≡ true = c.is_trailing_surrogate.ensures.1 (subst IsTrailing (first_unit-drop g.E.Utf16Order.BIG c.args.utf16.now whole ∙ sym c.read_unit.ensures) trailing) in
    absurd cc)

pub returns-then-is_trailing_surrogate-clause-last : goal.returns-then-is_trailing_surrogate-clause-last
returns-then-is_trailing_surrogate-clause-last g c i here le =
    let big = g.E.Utf16Order.BIG in
    let whole = c.args.at / 2 * 2 in
    let trailing = subst IsTrailing (c.read_unit.ensures ∙ sym (first_unit-drop big c.args.utf16.now whole)) (c.is_trailing_surrogate.ensures.0 c.if-is_trailing_surrogate.true) in
    let even = IsBoundary-even _ i here in
    ⊎_elim
    (λ (same : i ≡ whole). absurd (no_boundary big c.args.utf16.now whole c.requires.text (omega (arith, c.requires.inside)) trailing (subst (IsBoundary _) same here)))
    (λ (other : i ≡ whole → ⊥). omega (arith, even, le, other))
    (cases_eq i whole)

pub returns-clause-last : goal.returns-clause-last
returns-clause-last g c i here le = omega (arith, IsBoundary-even _ i here, le)
