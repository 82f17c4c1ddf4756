use Rattle.std.proofs.Common.{◌≡◌, ◌-◌, ◌∙◌, ⊎_elim, arith, drop, refl, subst, sym, true≢false}
use Rattle.utf16_units.specs.Boundary.{IsBoundary}
use Rattle.utf16_units.specs.Encoding.{text_of}
use Rattle.utf16_units.specs.Unit.{IsTrailing}
use Rattle.utf16_units.proofs.BackChar.{boundary_at_end, boundary_at_unit, boundary_is, first_unit-drop, length-even}
use Rattle.utf16_units.proofs.EncodingLemmas.{length-text}
use Rattle.utf16_units.proofs.FirstChar.{first_unit}
use Rattle.utf16_units.proofs.PieceLemmas.{near_boundary}
use Rattle.utf16_to_utf8.proofs.append.piece_end.Given.{Over}
use Rattle.utf16_to_utf8.proofs.append.piece_end.Goals as goal
use Rattle.utf16_to_utf8.proofs.append.piece_end.Goals.{After-is_trailing_surrogate}

unit : (g : Over) (c : After-is_trailing_surrogate g) → c.read_unit.result ≡ first_unit g.E.Utf16Order.BIG (drop 1024 c.args.raw.now)
unit g c = c.read_unit.ensures ∙ sym (first_unit-drop g.E.Utf16Order.BIG c.args.raw.now 1024)

pub bounds-raw : goal.bounds-raw
bounds-raw g c = omega (arith, length-even g.E.Utf16Order.BIG c.args.raw.now c.requires)

pub returns-then-raw-le-PIECE_LEN-clause-boundary : goal.returns-then-raw-le-PIECE_LEN-clause-boundary
returns-then-raw-le-PIECE_LEN-clause-boundary g c = boundary_at_end g.E.Utf16Order.BIG c.args.raw.now _ c.requires refl

pub returns-then-is_trailing_surrogate-clause-boundary : goal.returns-then-is_trailing_surrogate-clause-boundary
returns-then-is_trailing_surrogate-clause-boundary g c =
    let big = g.E.Utf16Order.BIG in
    let raw = c.args.raw.now in
    let text = text_of big raw in
    let same = unit g (goal.at.returns-then-is_trailing_surrogate-clause-boundary g c).After-is_trailing_surrogate in
    ⊎_elim
    (λ (b : IsBoundary text 1024). ⊎_elim
    (λ end. absurd (omega arith))
    (λ inside. absurd (inside.2 (subst IsTrailing same (c.is_trailing_surrogate.ensures.0 c.if-is_trailing_surrogate.true))))
    (boundary_is big raw 1024 c.requires b))
    (λ (b : IsBoundary text (1024 - 2)). b)
    (near_boundary text 1024 refl (omega arith) (omega (arith, length-text big raw c.requires)))

pub returns-else-is_trailing_surrogate-clause-boundary : goal.returns-else-is_trailing_surrogate-clause-boundary
returns-else-is_trailing_surrogate-clause-boundary g c =
    let same = unit g (goal.at.returns-else-is_trailing_surrogate-clause-boundary g c).After-is_trailing_surrogate in
    boundary_at_unit g.E.Utf16Order.BIG c.args.raw.now 1024 c.requires (omega arith) refl
    (λ trailing. true≢false (sym (c.is_trailing_surrogate.ensures.1 (subst IsTrailing (sym same) trailing)) ∙ c.if-is_trailing_surrogate.false))
