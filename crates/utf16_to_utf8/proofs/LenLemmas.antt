-- How many bytes units add, by the bits of their classes.
use Rattle.std.proofs.Common.{◌≡◌, ℕ, zero, suc, ◌+◌, ◌*◌, ◌<◌, ◌≤◌, Bool, true, false, cond, ltb, List, [], ◌∷◌, ◌++◌, All, length, get_or, map, replicate, refl, sym, ap, ◌∙◌, ⊎_elim, arith, count_by, count_ones, encode_utf8_all, Fits, w8, w16, length-append, sum_by, lt-ltb, le-ltb, inl}
use Rattle.std.proofs.lemmas.List.Elements.{All-head, All-tail}
use Rattle.std.proofs.lemmas.List.Sums.{sum_by-cons}
use Rattle.std.proofs.lemmas.Bool.{cases_lt}
use Rattle.std.proofs.lemmas.Simd.{Each1-from_get_or, ones-mask_l}
use lib.Lanes.{Each1, mask_l}
use Rattle.utf16_units.specs.Encoding.{IsUtf16, text_of, units_of}
use Rattle.utf16_to_utf8.specs.Lanes.{added_len, is_surrogate}
use Rattle.utf16_to_utf8.specs.Utf8.{unit_utf8, units_utf8}
use Rattle.utf16_to_utf8.proofs.AddedLemmas.{added_len-le, length-unit, surrogate-no}
use Rattle.utf16_to_utf8.proofs.BlockLemmas.{has_surrogate_byte, is_low, low-is, low-no, surrogate_byte}
use Rattle.utf16_to_utf8.proofs.ListLemmas.{units-cons, units-nil}
use Rattle.utf16_to_utf8.proofs.TextLemmas.{bytes-utf8}

-- ASCII units add one byte each
pub added-ascii : (units : List ℕ) → All (λ unit. unit < 0x80) units → sum_by added_len units ≡ length units
added-ascii [] are = refl
added-ascii (u ∷ units) are =
    let one : added_len u ≡ 1 = rw (lt-ltb u 0x80 (All-head (λ v. v < 0x80) u units are)) refl in
    omega (arith, one, sum_by-cons added_len u units, added-ascii units (All-tail (λ v. v < 0x80) u units are))

pub length-units : (before : ℕ) (units : List ℕ) → Each1 (Fits w16) units → length (units_utf8 before units) ≡ sum_by added_len units
length-units before [] fit = ap length (units-nil before)
length-units before (u ∷ units) fit =
    ap length (units-cons before u units)
    ∙ omega (arith, sum_by-cons added_len u units, length-append (unit_utf8 before u) (units_utf8 u units), length-unit before u fit.0.fits, length-units u units fit.1)

pub units-fit : (big : Bool) (bytes : List ℕ) → Each1 (Fits w8) bytes → Each1 (Fits w16) (units_of big bytes)
unfolding units_of
units-fit big [] fit = tt
units-fit big (x ∷ []) fit = tt
units-fit true (x ∷ y ∷ bytes) fit = let a = fit.0.fits in let b = fit.1.0.fits in (record { fits = omega (arith, a, b) }, units-fit true bytes fit.1.1)
units-fit false (x ∷ y ∷ bytes) fit = let a = fit.0.fits in let b = fit.1.0.fits in (record { fits = omega (arith, a, b) }, units-fit false bytes fit.1.1)

-- a text's UTF-8 is as long as its units add
pub length-utf8 : (big : Bool) (bytes : List ℕ) → ((k : ℕ) → Fits w8 (get_or bytes k 0)) → IsUtf16 big bytes → sum_by added_len (units_of big bytes) ≡ length (encode_utf8_all (text_of big bytes))
length-utf8 big bytes fit t =
    sym (length-units 0 (units_of big bytes) (units-fit big bytes (Each1-from_get_or (Fits w8) bytes 0 (λ k lt. fit k)))) ∙ ap length (bytes-utf8 big bytes t)

-- each unit adds three bytes, less one for each of these classes that it is in
abbrev less : ℕ → ℕ
less u = cond (is_low u) 1 0 + cond (has_surrogate_byte u) 1 0 + cond (ltb u 0x80) 1 0

by_three : (u : ℕ) → u < 0x1_0000 → added_len u + less u ≡ 3
by_three u below = ap (λ s. added_len u + (cond (is_low u) 1 0 + cond s 1 0 + cond (ltb u 0x80) 1 0)) (surrogate_byte u) ∙ ⊎_elim
    (λ (a : u < 0x800).
    let low = low-is u a in
    let no = surrogate-no u below (inl (omega (arith, a))) in
    ⊎_elim
    (λ (b : u < 0x80). rw (low, no, lt-ltb u 0x80 b) refl)
    (λ (b : 0x80 ≤ u). rw (low, no, le-ltb u 0x80 b, lt-ltb u 0x800 a) refl)
    (cases_lt u 0x80))
    (λ (a : 0x800 ≤ u).
    let high = low-no u below a in
    let b : 0x80 ≤ u = omega (arith, a) in
    elim (is_surrogate u) as (λ s. cond (ltb u 0x80) 1 (cond (ltb u 0x800) 2 (cond s 2 3)) + (cond (is_low u) 1 0 + cond s 1 0 + cond (ltb u 0x80) 1 0) ≡ 3) [
      | true ↦ rw (high, le-ltb u 0x80 b, le-ltb u 0x800 a) refl
      | false ↦ rw (high, le-ltb u 0x80 b, le-ltb u 0x800 a) refl
    ])
    (cases_lt u 0x800)

added-counted : (units : List ℕ) → Each1 (Fits w16) units
    → sum_by added_len units + count_by is_low units + count_by has_surrogate_byte units + count_by (λ u. ltb u 0x80) units ≡ 3 * length units
added-counted [] fit = refl
added-counted (u ∷ units) fit = omega (
  arith,
  by_three u fit.0.fits,
  added-counted units fit.1,
  sum_by-cons added_len u units,
  sum_by-cons (λ v. cond (is_low v) 1 0) u units,
  sum_by-cons (λ v. cond (has_surrogate_byte v) 1 0) u units,
  sum_by-cons (λ v. cond (ltb v 0x80) 1 0) u units,
)

-- from the number of bits in a mask of each
pub len-counted : (units : List ℕ) (low surrogate ascii : ℕ) → Each1 (Fits w16) units
    → low ≡ mask_l (map is_low units) → surrogate ≡ mask_l (map has_surrogate_byte units) → ascii ≡ mask_l (map (λ u. ltb u 0x80) units)
    → sum_by added_len units + count_ones low + count_ones surrogate + count_ones ascii ≡ 3 * length units
len-counted units low surrogate ascii fit is_low-bits surrogate-bits ascii-bits = omega (
  arith,
  added-counted units fit,
  ap count_ones is_low-bits ∙ ones-mask_l is_low units,
  ap count_ones surrogate-bits ∙ ones-mask_l has_surrogate_byte units,
  ap count_ones ascii-bits ∙ ones-mask_l (λ u. ltb u 0x80) units,
)

pub added-zeros : (k : ℕ) (units : List ℕ) → sum_by added_len (units ++ replicate k 0) ≡ sum_by added_len units + k
added-zeros k [] = zeros k
  where
    zeros : (k : ℕ) → sum_by added_len (replicate k 0) ≡ 0 + k
    zeros zero = refl
    zeros (suc k) = omega (arith, zeros k, sum_by-cons added_len 0 (replicate k 0))
added-zeros k (u ∷ units) = omega (arith, added-zeros k units, sum_by-cons added_len u units, sum_by-cons added_len u (units ++ replicate k 0))

-- no unit adds more than three bytes
pub added-le : (units : List ℕ) → sum_by added_len units ≤ 3 * length units
added-le [] = omega arith
added-le (u ∷ units) = omega (arith, added_len-le u, added-le units, sum_by-cons added_len u units)
