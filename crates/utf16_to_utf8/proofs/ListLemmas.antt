-- The bytes of several lanes, one after another.
use Rattle.std.proofs.Common.{◌≡◌, ℕ, suc, ◌+◌, ◌*◌, ◌<◌, Bool, List, [], ◌∷◌, ◌++◌, length, slice_index, map, refl, sym, ap, ap₂, ◌∙◌, arith}
use Rattle.std.proofs.lemmas.List.{get_or_append_left, get_or-append-add}
use lib.Lanes.{pick_l}
use Rattle.utf16_to_utf8.specs.Pack.{packed, threes}
use Rattle.utf16_to_utf8.specs.Utf8.{unit_utf8, units_utf8}
use Rattle.utf16_to_utf8.proofs.AddedLemmas.{one_or_two}

pub units-nil : (before : ℕ) → units_utf8 before [] ≡ []
unfolding units_utf8
units-nil before = refl

pub units-cons : (before unit : ℕ) (units : List ℕ) → units_utf8 before (unit ∷ units) ≡ unit_utf8 before unit ++ units_utf8 unit units
unfolding units_utf8
units-cons before unit units = refl

-- ---- lanes of two bytes, packed by flags

module _ (flag : ℕ → Bool) where
  pub packed-units : (before : ℕ) (units bytes : List ℕ) → length bytes ≡ 2 * length units
      → ((i : ℕ) → i < length units → one_or_two (flag (slice_index units i)) (slice_index bytes (2 * i)) (slice_index bytes (2 * i + 1)) ≡ unit_utf8 (slice_index (before ∷ units) i) (slice_index units i))
      → packed (map flag units) bytes ≡ units_utf8 before units
  packed-units before [] bytes long are = sym (units-nil before)
  packed-units before (u ∷ units) [] long are = absurd (omega arith)
  packed-units before (u ∷ units) (x ∷ []) long are = absurd (omega arith)
  packed-units before (u ∷ units) (x ∷ y ∷ bytes) long are =
      ap₂ (λ xs ys. xs ++ ys) (are 0 (omega arith))
      (packed-units u units bytes (omega arith) (λ i lt.
      let even : 2 * suc i ≡ suc (suc (2 * i)) = omega arith in
      let odd : 2 * suc i + 1 ≡ suc (suc (2 * i + 1)) = omega arith in
      ap₂ (λ m n. one_or_two (flag (slice_index units i)) (slice_index (x ∷ y ∷ bytes) m) (slice_index (x ∷ y ∷ bytes) n)) (sym even) (sym odd) ∙ are (suc i) (omega arith)))
      ∙ sym (units-cons before u units)

-- ---- lanes of three bytes, picked from the first two and the third

abbrev pub three_at : List ℕ → ℕ → List ℕ
three_at bytes i = slice_index bytes (2 * i) ∷ slice_index bytes (2 * i + 1) ∷ slice_index bytes (16 + 2 * i) ∷ []

pub threes-units : (before : ℕ) (units bytes : List ℕ) (at : ℕ)
    → ((i : ℕ) → i < length units → (last : ℕ) → three_at bytes (at + i) ≡ unit_utf8 last (slice_index units i))
    → pick_l 0 bytes (threes at (length units)) ≡ units_utf8 before units
threes-units before [] bytes at are = sym (units-nil before)
threes-units before (u ∷ units) bytes at are =
    let here : at + 0 ≡ at = omega arith in
    ap₂ (λ xs ys. xs ++ ys) (ap (three_at bytes) (sym here) ∙ are 0 (omega arith) before)
    (threes-units u units bytes (at + 1) (λ i lt last. let next : at + 1 + i ≡ at + suc i = omega arith in ap (three_at bytes) next ∙ are (suc i) (omega arith) last))
    ∙ sym (units-cons before u units)

-- the three bytes of a lane: two of sixteen bytes, and the third of the sixteen after them
pub three_from : (fronts thirds : List ℕ) (i x y z : ℕ) → length fronts ≡ 16 → i < 8 → slice_index fronts (2 * i) ≡ x → slice_index fronts (2 * i + 1) ≡ y → slice_index thirds (2 * i) ≡ z
    → three_at (fronts ++ thirds) (0 + i) ≡ x ∷ y ∷ z ∷ []
three_from fronts thirds i x y z long lt a b d =
    let both = fronts ++ thirds in
    let here : 0 + i ≡ i = omega arith in
    let behind : 16 + 2 * i ≡ length fronts + 2 * i = omega (arith, long) in
    ap (three_at both) here
    ∙ ap₂ (λ m n. m ∷ n ∷ slice_index both (16 + 2 * i) ∷ []) (get_or_append_left fronts thirds 0 (2 * i) (omega (arith, long)) ∙ a) (get_or_append_left fronts thirds 0 (2 * i + 1) (omega (arith, long)) ∙ b)
    ∙ ap (λ n. x ∷ y ∷ n ∷ []) (ap (slice_index both) behind ∙ get_or-append-add fronts thirds (2 * i) 0 ∙ d)

-- a cast that loses no bits leaves the lanes as they are
pub same_lanes : (lanes : List ℕ) → map (λ (n : ℕ). n) lanes ≡ lanes
same_lanes [] = refl
same_lanes (n ∷ lanes) = ap (λ ns. n ∷ ns) (same_lanes lanes)
