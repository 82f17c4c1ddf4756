-- The first character of bytes, by their first units.
use Rattle.std.proofs.Common.{◌≡◌, ℕ, zero, suc, ◌+◌, ◌-◌, ◌*◌, ◌/◌, ◌<◌, ◌≤◌, Bool, true, false, List, [], ◌∷◌, ◌++◌, All, length, slice_index, refl, sym, ap, ap₂, ◌∙◌, ⊎_elim, arith, flat_map, le-ltb, le-leb, lt-ltb}
use Rattle.std.proofs.lemmas.Bool.{cases_lt}
use Rattle.std.proofs.lemmas.List.Elements.{All-head, All-tail}
use Rattle.std.proofs.Math.Utf8.{low_scalar}
use Rattle.std.proofs.str.Utf16.{one_unit, pair_units}
use Rattle.std.specs.Char.{IsScalar}
use Rattle.std.specs.Char.Escape.{encode_utf16}
use Rattle.utf16_units.specs.Unit.{IsLeading, IsTrailing, unit_bytes, unit_of}
use Rattle.utf16_units.specs.IllFormed.{BeginsWithChar}
use Rattle.utf16_units.proofs.UnitLemmas.{unit_bytes-unit_of}

-- each of the numbers is a byte
abbrev pub AreBytes : List ℕ → Type 0
AreBytes bytes = (k : ℕ) → slice_index bytes k < 256

pub AreBytes-from_All : (bytes : List ℕ) → All (λ b. b < 256) bytes → AreBytes bytes
AreBytes-from_All [] are k = omega arith
AreBytes-from_All (b ∷ bytes) are zero = All-head (λ b. b < 256) b bytes are
AreBytes-from_All (b ∷ bytes) are (suc k) = AreBytes-from_All bytes (All-tail (λ b. b < 256) b bytes are) k

-- the first unit
abbrev pub first_unit : Bool → List ℕ → ℕ
first_unit big bytes = unit_of big (slice_index bytes 0) (slice_index bytes 1)

abbrev pub second_unit : Bool → List ℕ → ℕ
second_unit big bytes = unit_of big (slice_index bytes 2) (slice_index bytes 3)

pub unit_below : (big : Bool) (first second : ℕ) → first < 256 → second < 256 → unit_of big first second < 0x1_0000
unit_below true first second h l = omega arith
unit_below false first second h l = omega arith

pub high_scalar : (c : ℕ) → 0xE000 ≤ c → c < 0x11_0000 → IsScalar c
high_scalar c from below =
    let not_low : 0xD800 ≤ c = omega arith in
    rw (le-ltb c 0xD800 not_low, le-leb 0xE000 c from, lt-ltb c 0x11_0000 below) refl

pub scalar_unit : (unit : ℕ) → unit < 0x1_0000 → ¬ (IsLeading unit) → ¬ (IsTrailing unit) → IsScalar unit
scalar_unit unit below leading trailing = ⊎_elim
    (λ (low : unit < 0xD800). low_scalar unit low)
    (λ (high : 0xD800 ≤ unit). ⊎_elim
    (λ (lead : unit < 0xDC00). absurd (leading (high, omega arith)))
    (λ (past : 0xDC00 ≤ unit). ⊎_elim
    (λ (trail : unit < 0xE000). absurd (trailing (past, omega arith)))
    (λ (above : 0xE000 ≤ unit). high_scalar unit above (omega arith))
    (cases_lt unit 0xE000))
    (cases_lt unit 0xDC00))
    (cases_lt unit 0xD800)

-- the surrogates are the units from 0xD800 to 0xDFFF: one that is not trailing is leading
pub leading_of_surrogate : (unit : ℕ) → unit / 0x800 ≡ 0x1B → ¬ (IsTrailing unit) → IsLeading unit
leading_of_surrogate unit surrogate not_trailing = ⊎_elim
    (λ (low : unit < 0xDC00). (omega arith, omega arith))
    (λ (high : 0xDC00 ≤ unit). absurd (not_trailing (high, omega arith)))
    (cases_lt unit 0xDC00)

pub one_unit_first : (big : Bool) (bytes : List ℕ) → AreBytes bytes → 2 ≤ length bytes
    → ¬ (IsLeading (first_unit big bytes)) → ¬ (IsTrailing (first_unit big bytes)) → BeginsWithChar big bytes 2
one_unit_first big [] are long leading trailing = absurd (omega arith)
one_unit_first big (x ∷ []) are long leading trailing = absurd (omega arith)
one_unit_first big (x ∷ y ∷ rest) are long leading trailing =
    let below : unit_of big x y < 0x1_0000 = unit_below big x y (are 0) (are 1) in
    let bytes : unit_bytes big (unit_of big x y) ≡ x ∷ y ∷ [] = unit_bytes-unit_of big x y (are 0) (are 1) in
    record {
      char = unit_of big x y;
      scalar = scalar_unit (unit_of big x y) below leading trailing;
      within = long;
      spelled = ap (λ t. t ++ []) (sym bytes) ∙ sym (ap (flat_map (unit_bytes big)) (one_unit (unit_of big x y) below));
    }

pub pair_first : (big : Bool) (bytes : List ℕ) → AreBytes bytes → 4 ≤ length bytes
    → IsLeading (first_unit big bytes) → IsTrailing (second_unit big bytes) → BeginsWithChar big bytes 4
pair_first big [] are long leading trailing = absurd (omega arith)
pair_first big (x ∷ []) are long leading trailing = absurd (omega arith)
pair_first big (x ∷ y ∷ []) are long leading trailing = absurd (omega arith)
pair_first big (x ∷ y ∷ z ∷ []) are long leading trailing = absurd (omega arith)
pair_first big (x ∷ y ∷ z ∷ w ∷ rest) are long leading trailing =
    let high = unit_of big x y in
    let low = unit_of big z w in
    let c = 0x1_0000 + ((high - 0xD800) * 0x400 + (low - 0xDC00)) in
    let units : encode_utf16 c ≡ high ∷ low ∷ [] = pair_units high low leading.0 trailing.0 (omega arith) in
    let first : unit_bytes big high ≡ x ∷ y ∷ [] = unit_bytes-unit_of big x y (are 0) (are 1) in
    let second : unit_bytes big low ≡ z ∷ w ∷ [] = unit_bytes-unit_of big z w (are 2) (are 3) in
    record {
      char = c;
      scalar = high_scalar c (omega arith) (omega arith);
      within = long;
      spelled = ap₂ (λ s t. s ++ (t ++ [])) (sym first) (sym second) ∙ sym (ap (flat_map (unit_bytes big)) units);
    }
