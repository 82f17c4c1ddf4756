-- The greatest boundary before an offset that is not a boundary.
use Rattle.std.proofs.Common.{◌≡◌, inr, ⊎_elim, ℕ, ◌+◌, ◌-◌, ◌*◌, ◌/◌, ◌%◌, ◌<◌, ◌≤◌, Bool, List, ◌∷◌, length, take, drop, slice_index, sym, ap, ap₂, ◌∙◌, subst, arith, length-take-le}
use Rattle.std.proofs.lemmas.Bool.{cases_lt}
use Rattle.std.proofs.lemmas.List.{drop_more, get_or-take}
use Rattle.utf16_units.specs.Split.{BeginsUnpaired}
use Rattle.utf16_units.specs.Unit.{IsLeading, IsTrailing, unit_of}
use Rattle.utf16_units.proofs.SplitLemmas.{Class, class_of, leading, trailing, neither}
use Rattle.utf16_bytes.specs.Boundary.{IsBetween, IsCut, IsLastCut}

-- a whole unit that is not trailing
begins : (big : Bool) (bytes : List ℕ) (i : ℕ) → i + 2 ≤ length bytes
    → ¬ (IsTrailing (unit_of big (slice_index bytes i) (slice_index bytes (i + 1)))) → BeginsUnpaired big (drop i bytes)
begins big bytes i within not_trailing =
    subst (BeginsUnpaired big)
    (sym (drop_more bytes i 0 (omega (arith, within)) ∙ ap (λ t. slice_index bytes i ∷ t) (drop_more bytes (i + 1) 0 (omega (arith, within)))))
    not_trailing

module _ (big : Bool) (bytes : List ℕ) (even : ℕ) (within : even < length bytes) (is : even % 2 ≡ 0) (none : ¬ (IsCut big bytes even)) where
  abbrev before : ℕ
  before = unit_of big (slice_index bytes (even - 2)) (slice_index bytes (even - 1))

  long : length (take even bytes) ≡ even
  long = length-take-le even bytes (omega (arith, within))

  -- the last unit before the offset
  unit_is : 2 ≤ even → unit_of big (slice_index (take even bytes) (length (take even bytes) - 2)) (slice_index (take even bytes) (length (take even bytes) - 1)) ≡ before
  unit_is some =
      ap₂ (unit_of big)
      (ap (λ n. slice_index (take even bytes) (n - 2)) long ∙ get_or-take even bytes (even - 2) 0 (omega (arith, some)))
      (ap (λ n. slice_index (take even bytes) (n - 1)) long ∙ get_or-take even bytes (even - 1) 0 (omega (arith, some)))

  -- it is there, and leading
  some : 2 ≤ even
  some = ⊎_elim
      (λ (few : even < 2). absurd (none (inr (within, is, λ ends. absurd (omega (arith, few, ends.0, long))))))
      (λ (many : 2 ≤ even). many)
      (cases_lt even 2)

  is_leading : IsLeading before
  is_leading = by_class (class_of before) where
    by_class : Class before → IsLeading before
    by_class (leading l) = l
    by_class (trailing t) = absurd (none (inr (within, is, λ ends. let l = subst IsLeading (unit_is some) ends.1 in absurd (omega (arith, l.1, t.0)))))
    by_class (neither l t) = absurd (none (inr (within, is, λ ends. absurd (l (subst IsLeading (unit_is some) ends.1)))))

  -- so there is a boundary before it
  pub IsLastCut-before : (at : ℕ) → at < length bytes → even ≡ at / 2 * 2 → IsLastCut big bytes at (even - 2)
  IsLastCut-before at inside half = record {
    cut = inr (
      omega (arith, within),
      omega (arith, is, some),
      (λ ends. begins big bytes (even - 2) (omega (arith, within, some))
          (λ t. let second : even - 1 ≡ even - 2 + 1 = omega (arith, some) in
          let l = subst (λ k. IsLeading (unit_of big (slice_index bytes (even - 2)) (slice_index bytes k))) second is_leading in absurd (omega (arith, l.1, t.0)))),
    );
    within = omega (arith, half);
    last = λ m cut le. ⊎_elim
        (λ (end : m ≡ length bytes). absurd (omega (arith, end, le, inside)))
        (λ (between : IsBetween big bytes m). ⊎_elim
        (λ (less : m < even). omega (arith, less, between.1, is))
        (λ (not_less : even ≤ m). let same : m ≡ even = omega (arith, not_less, between.1, is, half, le) in absurd (none (subst (IsCut big bytes) same cut)))
        (cases_lt m even))
        cut;
  }
