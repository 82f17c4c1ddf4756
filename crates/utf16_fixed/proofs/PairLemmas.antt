-- Surrogate pairs in lanes, and their characters.
use Rattle.std.proofs.Common.{◌≡◌, ℕ, zero, suc, All, ◌+◌, ◌-◌, ◌*◌, ◌/◌, ◌%◌, ◌^◌, ◌<◌, ◌≤◌, Bool, true, false, List, [], ◌∷◌, ◌++◌, bit_and, bit_or, length, map, replicate, take, refl, sym, ap, ap₂, ◌∙◌, subst, arith, Fits, w8, w16, w32, flat_map}
use Rattle.std.proofs.lemmas.List.Elements.{All-cons, All-head, All-nil, All-tail}
use Rattle.std.proofs.lemmas.Nat.{and_mask, le_or_l, le_or_r}
use Rattle.std.proofs.lemmas.Simd.{splat_is_map, zip2_of_maps, zip2_splat}
use lib.Lanes.{Each1, digits_l, number_l, zip2}
use Rattle.std.specs.Char.{IsScalar}
use Rattle.std.specs.Char.Utf16.{surrogate_pair_char}
use Rattle.utf16_units.proofs.FirstChar.{high_scalar}
use Rattle.utf16_units.specs.Encoding.{Encodes, units_of}
use Rattle.utf16_units.specs.Unit.{IsLeading, IsTrailing, unit_bytes}
use Rattle.utf16_units.proofs.EncodingLemmas.{encode-cons, encode-nil}
use Rattle.utf16_units.proofs.SplitLemmas.{pair_bytes}
use Rattle.utf16_fixed.specs.Pairs.{halved, joined, pair_bits, pair_char, pair_of, pair_offset, pair_test}

-- ---- lanes

-- two units, read from their bytes as one lane
pub joined-read : (n : ℕ) (units : List ℕ) → length units ≡ n + n → Each1 (Fits w16) units
    → digits_l (2 ^ 32) n (number_l 256 (flat_map (unit_bytes false) units)) ≡ joined units
unfolding joined
joined-read zero [] long fit = refl
joined-read (suc n) (l ∷ t ∷ units) long fit = grind (arith, joined-read n units (omega (arith, long)) fit.1.1)
joined-read n units long fit = absurd (omega (arith, long))

-- ---- characters

module _ (l t : ℕ) (low : l < 0x1_0000) (high : t < 0x1_0000) (pair : pair_test (pair_bits (l + 0x1_0000 * t)) ≤ 0x3FF) where
  bits : ℕ
  bits = pair_bits (l + 0x1_0000 * t)

  first : bits % 0x1_0000 ≤ 0x3FF
  unfolding bits
  first = omega (arith, pair, le_or_l (pair_bits (l + 0x1_0000 * t) % 0x1_0000) (pair_bits (l + 0x1_0000 * t) / 2 ^ 16))

  second : bits / 2 ^ 16 ≤ 0x3FF
  unfolding bits
  second = omega (arith, pair, le_or_r (pair_bits (l + 0x1_0000 * t) % 0x1_0000) (pair_bits (l + 0x1_0000 * t) / 2 ^ 16))

  leads : IsLeading l
  unfolding bits
  leads = (omega (arith, first, second, low, high), omega (arith, first, second, low, high))

  trails : IsTrailing t
  unfolding bits
  trails = (omega (arith, first, second, low, high), omega (arith, first, second, low, high))

  char_is : pair_char (pair_bits (l + 0x1_0000 * t)) ≡ surrogate_pair_char l t
  char_is = omega (arith, first, second, low, high, leads, trails)

  scalar : IsScalar (surrogate_pair_char l t)
  scalar = high_scalar (surrogate_pair_char l t) (omega (arith, leads, trails)) (omega (arith, leads, trails))

  -- the character and a text after it
  pub Encodes-pair : (big : Bool) (text bytes : List ℕ) → Encodes big text bytes
      → Encodes big (pair_char (pair_bits (l + 0x1_0000 * t)) ∷ text) (unit_bytes big l ++ (unit_bytes big t ++ bytes))
  Encodes-pair big text bytes e = grind (arith, All-cons, char_is, scalar, encode-cons, pair_bytes, leads, trails)

-- the pairs at the start of a block
pub Encodes-pairs : (big : Bool) (n : ℕ) (units : List ℕ) → n + n ≤ length units → Each1 (Fits w16) units
    → All (λ test. test ≤ 0x3FF) (take n (map pair_test (map pair_bits (joined units))))
    → Encodes big (take n (map pair_char (map pair_bits (joined units)))) (flat_map (unit_bytes big) (take (n + n) units))
unfolding joined
Encodes-pairs big zero units room fit tests = record { scalars = All-nil IsScalar; spelled = encode-nil big }
Encodes-pairs big (suc n) (l ∷ t ∷ units) room fit tests =
    let two : suc n + suc n ≡ suc (suc (n + n)) = omega arith in
    let here = All-head (λ test. test ≤ 0x3FF) (pair_test (pair_bits (l + 0x1_0000 * t))) (take n (map pair_test (map pair_bits (joined units)))) tests in
    let rest = All-tail (λ test. test ≤ 0x3FF) (pair_test (pair_bits (l + 0x1_0000 * t))) (take n (map pair_test (map pair_bits (joined units)))) tests in
    subst (λ k. Encodes big (pair_char (pair_bits (l + 0x1_0000 * t)) ∷ take n (map pair_char (map pair_bits (joined units)))) (flat_map (unit_bytes big) (take k (l ∷ t ∷ units)))) (sym two)
    (Encodes-pair l t (omega (arith, fit.0.fits)) (omega (arith, fit.1.0.fits)) here big _ _ (Encodes-pairs big n units (omega (arith, room)) fit.1.1 rest))
Encodes-pairs big (suc n) units room fit tests = absurd (omega (arith, room))

-- units fit in sixteen bits
pub units-fit : (big : Bool) (bytes : List ℕ) → Each1 (Fits w8) bytes → Each1 (Fits w16) (units_of big bytes)
unfolding units_of
units-fit true (x ∷ y ∷ bytes) fit = (record { fits = omega (arith, fit.0.fits, fit.1.0.fits) }, units-fit true bytes fit.1.1)
units-fit false (x ∷ y ∷ bytes) fit = (record { fits = omega (arith, fit.0.fits, fit.1.0.fits) }, units-fit false bytes fit.1.1)
units-fit big bytes fit = tt

-- ---- lane by lane

masked : (bits : ℕ) (v : List ℕ) → map (λ (a : ℕ). bit_and a (2 ^ bits - 1)) v ≡ map (λ a. a % 2 ^ bits) v
masked bits [] = refl
masked bits (x ∷ v) = ap₂ (λ y ys. y ∷ ys) (and_mask x bits) (masked bits v)

module _ (v : List ℕ) (long : length v ≡ 8) where
  pub bits-lanes : zip2 (λ (a b : ℕ). (a + (2 ^ 32 - b)) % 2 ^ 32) v (replicate 8 0xDC00_D800) ≡ map pair_bits v
  bits-lanes = zip2_splat (λ (a b : ℕ). (a + (2 ^ 32 - b)) % 2 ^ 32) v 8 0xDC00_D800 long

  low : zip2 (λ (a b : ℕ). bit_and a b) v (replicate 8 0xFFFF) ≡ map (λ a. a % 0x1_0000) v
  low = zip2_splat (λ (a b : ℕ). bit_and a b) v 8 0xFFFF long ∙ masked 16 v

  high : zip2 (λ (a b : ℕ). a / 2 ^ b) v (replicate 8 16) ≡ map (λ a. a / 2 ^ 16) v
  high = zip2_splat (λ (a b : ℕ). a / 2 ^ b) v 8 16 long

  pub tests-lanes : zip2 (λ (a b : ℕ). bit_or a b) (zip2 (λ (a b : ℕ). bit_and a b) v (replicate 8 0xFFFF)) (zip2 (λ (a b : ℕ). a / 2 ^ b) v (replicate 8 16)) ≡ map pair_test v
  tests-lanes = zip2_of_maps (λ (a b : ℕ). bit_or a b) (λ (a : ℕ). a % 0x1_0000) (λ (a : ℕ). a / 2 ^ 16) v low high

  shifted : zip2 (λ (a b : ℕ). a * 2 ^ b % 2 ^ 32) (zip2 (λ (a b : ℕ). bit_and a b) v (replicate 8 0xFFFF)) (replicate 8 10) ≡ map (λ a. a % 0x1_0000 * 2 ^ 10 % 2 ^ 32) v
  shifted =
      zip2_of_maps (λ (a b : ℕ). a * 2 ^ b % 2 ^ 32) (λ (a : ℕ). a % 0x1_0000) (λ (a : ℕ). 10) v low (splat_is_map v 8 10 long)

  pub chars-lanes : zip2 (λ (a b : ℕ). (a + b) % 2 ^ 32)
      (zip2 (λ (a b : ℕ). (a + b) % 2 ^ 32) (zip2 (λ (a b : ℕ). a * 2 ^ b % 2 ^ 32) (zip2 (λ (a b : ℕ). bit_and a b) v (replicate 8 0xFFFF)) (replicate 8 10)) (zip2 (λ (a b : ℕ). a / 2 ^ b) v (replicate 8 16)))
      (replicate 8 0x1_0000) ≡ map pair_char v
  chars-lanes =
      zip2_of_maps (λ (a b : ℕ). (a + b) % 2 ^ 32) (λ (a : ℕ). (a % 0x1_0000 * 2 ^ 10 % 2 ^ 32 + a / 2 ^ 16) % 2 ^ 32) (λ (a : ℕ). 0x1_0000) v
      (zip2_of_maps (λ (a b : ℕ). (a + b) % 2 ^ 32) (λ (a : ℕ). a % 0x1_0000 * 2 ^ 10 % 2 ^ 32) (λ (a : ℕ). a / 2 ^ 16) v shifted high) (splat_is_map v 8 0x1_0000 long)

-- ---- characters of two units, written as pairs

-- lanes, written as bytes and read as units
pub halved-read : (n : ℕ) (pairs : List ℕ) → length pairs ≡ n → Each1 (Fits w32) pairs
    → units_of false (digits_l 256 (n + n + (n + n)) (number_l (2 ^ 32) pairs)) ≡ halved pairs
unfolding halved units_of
halved-read zero [] long fit = refl
halved-read (suc n) (p ∷ pairs) long fit =
    let four : suc n + suc n + (suc n + suc n) ≡ suc (suc (suc (suc (n + n + (n + n))))) = omega arith in
    let rest = number_l (2 ^ 32) pairs in
    let below = fit.0.fits in
    ap (λ k. units_of false (digits_l 256 k (p + 2 ^ 32 * rest))) four
    ∙ ap₂ (λ x xs. x ∷ xs) (omega (arith, below))
    (ap₂ (λ x xs. x ∷ xs) (omega (arith, below)) (ap (λ m. units_of false (digits_l 256 (n + n + (n + n)) m)) (omega (arith, below)) ∙ halved-read n pairs (omega (arith, long)) fit.1))
halved-read n pairs long fit = absurd (omega (arith, long))

pub digits-fit : (n m : ℕ) → Each1 (Fits w8) (digits_l 256 n m)
digits-fit zero m = tt
digits-fit (suc n) m = (record { fits = omega arith }, digits-fit n (m / 256))

module _ (v : List ℕ) (long : length v ≡ 8) where
  pub offsets-lanes : zip2 (λ (a b : ℕ). (a + (2 ^ 32 - b)) % 2 ^ 32) v (replicate 8 0x1_0000) ≡ map pair_offset v
  offsets-lanes = zip2_splat (λ (a b : ℕ). (a + (2 ^ 32 - b)) % 2 ^ 32) v 8 0x1_0000 long

  lower : zip2 (λ (a b : ℕ). bit_and a b) v (replicate 8 0x3FF) ≡ map (λ a. a % 0x400) v
  lower = zip2_splat (λ (a b : ℕ). bit_and a b) v 8 0x3FF long ∙ masked 10 v

  pub pairs-lanes : zip2 (λ (a b : ℕ). (a + b) % 2 ^ 32)
      (zip2 (λ (a b : ℕ). (a + b) % 2 ^ 32) (zip2 (λ (a b : ℕ). a * 2 ^ b % 2 ^ 32) (zip2 (λ (a b : ℕ). bit_and a b) v (replicate 8 0x3FF)) (replicate 8 16)) (zip2 (λ (a b : ℕ). a / 2 ^ b) v (replicate 8 10)))
      (replicate 8 0xDC00_D800) ≡ map pair_of v
  pairs-lanes =
      zip2_of_maps (λ (a b : ℕ). (a + b) % 2 ^ 32) (λ (a : ℕ). (a % 0x400 * 2 ^ 16 % 2 ^ 32 + a / 2 ^ 10) % 2 ^ 32) (λ (a : ℕ). 0xDC00_D800) v
      (zip2_of_maps (λ (a b : ℕ). (a + b) % 2 ^ 32) (λ (a : ℕ). a % 0x400 * 2 ^ 16 % 2 ^ 32) (λ (a : ℕ). a / 2 ^ 10) v
      (zip2_of_maps (λ (a b : ℕ). a * 2 ^ b % 2 ^ 32) (λ (a : ℕ). a % 0x400) (λ (a : ℕ). 16) v lower (splat_is_map v 8 16 long))
      (zip2_splat (λ (a b : ℕ). a / 2 ^ b) v 8 10 long)) (splat_is_map v 8 0xDC00_D800 long)
