use Rattle.std.proofs.Common.{◌≡◌, ℕ, List, [], ◌∷◌, length, refl, ◌∙◌, ◌++◌, ap, arith, sym, take}
use Rattle.utf16_units.specs.Encoding.{encode}
use Rattle.std.specs.List.{items_where_true}
use Rattle.utf16string.proofs.PlainUnits.{encode-none, kept-all}
use Rattle.utf16string.proofs.retain_blocks.move_block.Goals as goal

none-left : (l : List ℕ) → length l ≡ 0 → l ≡ []
none-left [] none = refl
none-left (u ∷ l) none = absurd (omega (arith, none))

pub returns-then-many-eq-UNITS-clause-moved : goal.returns-then-many-eq-UNITS-clause-moved
returns-then-many-eq-UNITS-clause-moved g c =
    let all = kept-all c.args.answers.now c.args.units.now (omega arith) in
    c.move_all.ensures.moved ∙ ap (λ l. take c.args.to c.args.bytes.now ++ l) (sym c.requires.here.spelled ∙ ap (encode g.E.Utf16Order.BIG) (sym all))

pub returns-then-many-eq0-clause-moved : goal.returns-then-many-eq0-clause-moved
returns-then-many-eq0-clause-moved g c =
    let none = none-left (items_where_true c.args.answers.now c.args.units.now) (omega arith) in
    encode-none g.E.Utf16Order.BIG _ ∙ ap (λ l. take c.args.to c.args.bytes.now ++ encode g.E.Utf16Order.BIG l) (sym none)
