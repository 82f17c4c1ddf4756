-- Code units counted by a test, and the size of their text in UTF-16.
use Rattle.std.proofs.lemmas.Bool.Decides.{nat_tests}
use Rattle.std.proofs.Common.{rules, ◌≡◌, ℕ, ◌+◌, ◌*◌, ◌<◌, ◌≤◌, Bool, cond, List, [], ◌∷◌, length, take, drop, refl, arith, count_by, lt-ltb, le-ltb, take-add}
use Rattle.std.proofs.lemmas.List.Sums.{sum_by-append, sum_by-cons}
use Rattle.utf16_units.proofs.FirstChar.{high_scalar}
use Rattle.utf16_units.specs.Encoding.{char_size, size}
use Rattle.utf16_units.proofs.CharLemmas.{char_size_four, char_size_two}
use Rattle.utf16_units.proofs.EncodingLemmas.{size-cons, size-nil}
use Rattle.utf16_fixed.specs.Utf32.{above, lossy_unit, lossy_utf32}
use Rattle.utf16_fixed.proofs.ShowsLemmas.{lossy_unit-other, lossy_unit-scalar, scalar_or_not}

module _ (p : ℕ → Bool) where
  -- the next n units are counted
  pub counted-next : (units : List ℕ) (at n count more : ℕ) → count ≡ count_by p (take at units) → more ≡ count_by p (take n (drop at units))
      → count + more ≡ count_by p (take (at + n) units)
  counted-next units at n count more is next = grind (arith, nat_tests, count_by, take-add, sum_by-append)

bit-above : (limit unit : ℕ) → limit < unit → ◌≡◌ {A = ℕ} (cond (above limit unit) 1 0) 1
bit-above limit unit more = rw (lt-ltb limit unit more) refl

bit-below : (limit unit : ℕ) → unit ≤ limit → ◌≡◌ {A = ℕ} (cond (above limit unit) 1 0) 0
bit-below limit unit le = rw (le-ltb limit unit le) refl

counted-cons : (limit unit : ℕ) (units : List ℕ) → count_by (above limit) (unit ∷ units) ≡ cond (above limit unit) 1 0 + count_by (above limit) units
counted-cons limit unit units = sum_by-cons (λ u. cond (above limit u) 1 0) unit units

-- fewer are above a higher limit
pub above-fewer : (low high : ℕ) (units : List ℕ) → low ≤ high → count_by (above high) units ≤ count_by (above low) units
above-fewer low high [] le = omega arith
above-fewer low high (u ∷ units) le = omega (arith, above-fewer low high units le, counted-cons low u units, counted-cons high u units, one) where
  one : cond (above high u) 1 0 ≤ cond (above low u) 1 0
  one = grind (arith, nat_tests, bit-above, bit-below)

lossy_unit-small : (unit : ℕ) → unit < 0x1_0000 → lossy_unit unit < 0x1_0000
lossy_unit-small unit small = grind (arith, lossy_unit-scalar, lossy_unit-other, scalar_or_not)

-- a unit that is not a scalar value takes as much space as U+FFFD
lossy_unit-size : (u : ℕ) → char_size (lossy_unit u) + 2 * cond (above 0x10_FFFF u) 1 0 ≡ 2 + 2 * cond (above 0xFFFF u) 1 0
lossy_unit-size u = grind (arith, nat_tests, char_size_two, lossy_unit-small, bit-below, lossy_unit-scalar, high_scalar, char_size_four, bit-above)

pub lossy_utf32-size : (units : List ℕ) → size (lossy_utf32 units) + 2 * count_by (above 0x10_FFFF) units ≡ 2 * length units + 2 * count_by (above 0xFFFF) units
lossy_utf32-size [] = omega (arith, size-nil)
lossy_utf32-size (u ∷ units) = search (rules, size-cons, lossy_unit-size, counted-cons, lossy_utf32-size units)
