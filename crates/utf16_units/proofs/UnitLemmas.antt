-- The two bytes of a unit and the unit of two bytes undo each other.
use Rattle.std.proofs.Common.{◌≡◌, ℕ, ◌*◌, ◌<◌, Bool, true, false, List, [], ◌∷◌, ◌++◌, length, refl, ap, ap₂, ◌∙◌, arith, append_assoc, flat_map}
use Rattle.utf16_units.specs.Unit.{unit_bytes, unit_of}
use Rattle.utf16_units.specs.Encoding.{units_of}

-- the bytes of a unit followed by others decode to that unit and then to theirs
pub units_of-unit : (big : Bool) (unit : ℕ) (bytes : List ℕ) → units_of big (unit_bytes big unit ++ bytes) ≡ unit ∷ units_of big bytes
unfolding units_of
units_of-unit true unit bytes = ap (λ u. u ∷ units_of true bytes) (omega arith)
units_of-unit false unit bytes = ap (λ u. u ∷ units_of false bytes) (omega arith)

-- the bytes of several units followed by others decode to those units and then to theirs
pub units_of-units : (big : Bool) (units bytes : List ℕ) → units_of big (flat_map (unit_bytes big) units ++ bytes) ≡ units ++ units_of big bytes
units_of-units big [] bytes = refl
units_of-units big (unit ∷ units) bytes =
    ap (units_of big) (append_assoc (unit_bytes big unit) (flat_map (unit_bytes big) units) bytes)
    ∙ units_of-unit big unit (flat_map (unit_bytes big) units ++ bytes)
    ∙ ap (λ us. unit ∷ us) (units_of-units big units bytes)

-- the unit of two bytes has these two bytes
pub unit_bytes-unit_of : (big : Bool) (first second : ℕ) → first < 256 → second < 256 → unit_bytes big (unit_of big first second) ≡ first ∷ second ∷ []
unit_bytes-unit_of true first second h l = ap₂ (λ x y. x ∷ y ∷ []) (omega arith) (omega arith)
unit_bytes-unit_of false first second h l = ap₂ (λ x y. x ∷ y ∷ []) (omega arith) (omega arith)

pub length-unit_bytes : (big : Bool) (unit : ℕ) → length (unit_bytes big unit) ≡ 2
length-unit_bytes true unit = refl
length-unit_bytes false unit = refl

pub length-units_bytes : (big : Bool) (units : List ℕ) → length (flat_map (unit_bytes big) units) ≡ 2 * length units
length-units_bytes true [] = refl
length-units_bytes false [] = refl
length-units_bytes true (unit ∷ units) = omega (arith, length-units_bytes true units)
length-units_bytes false (unit ∷ units) = omega (arith, length-units_bytes false units)
