-- Boundaries seen in a part of the bytes.
use Rattle.std.proofs.Common.{◌≡◌, inl, inr, ⊎_elim, ℕ, ◌+◌, ◌-◌, ◌*◌, ◌/◌, ◌%◌, ◌<◌, ◌≤◌, min, Bool, List, [], ◌∷◌, ◌++◌, length, take, drop, slice_index, refl, sym, ap, ap₂, ◌∙◌, subst, arith, length-append, length-drop}
use Rattle.std.proofs.Math.Seq.{take-add}
use Rattle.std.proofs.lemmas.Bool.{cases_lt}
use Rattle.std.proofs.lemmas.List.{drop-drop, drop-take, get_or-append_right, length-take, take-take}
use Rattle.utf16_units.specs.Split.{BeginsUnpaired}
use Rattle.utf16_units.specs.Unit.{IsLeading, unit_of}
use Rattle.utf16_bytes.specs.Boundary.{EndsLeading, IsBetween, IsCut, IsLastCut}
use Rattle.utf16_bytes.specs.File.{around_start, bytes_around}
use Rattle.utf16_bytes.proofs.FloorLemmas.{IsLastCut-before}

-- the last unit of bytes, and of bytes with some before them
last_unit : (big : Bool) (front back : List ℕ) → 2 ≤ length back
    → unit_of big (slice_index (front ++ back) (length (front ++ back) - 2)) (slice_index (front ++ back) (length (front ++ back) - 1))
    ≡ unit_of big (slice_index back (length back - 2)) (slice_index back (length back - 1))
last_unit big front back long =
    let both = length-append front back in
    ap₂ (unit_of big)
    (get_or-append_right front back (length front) (length (front ++ back) - 2) 0 refl (omega (arith, both, long))
    ∙ ap (slice_index back) (omega (arith, both, long)))
    (get_or-append_right front back (length front) (length (front ++ back) - 1) 0 refl (omega (arith, both, long))
    ∙ ap (slice_index back) (omega (arith, both, long)))

pub EndsLeading-append : (big : Bool) (front back : List ℕ) → EndsLeading big back → EndsLeading big (front ++ back)
EndsLeading-append big front back ends =
    (omega (arith, length-append front back, ends.0), subst IsLeading (sym (last_unit big front back ends.0)) ends.1)

EndsLeading-back : (big : Bool) (front back : List ℕ) → 2 ≤ length back → EndsLeading big (front ++ back) → EndsLeading big back
EndsLeading-back big front back long ends = (long, subst IsLeading (last_unit big front back long) ends.1)

-- whether bytes begin unpaired is seen from the first two
BeginsUnpaired-take : (big : Bool) (bytes : List ℕ) → BeginsUnpaired big bytes → BeginsUnpaired big (take 2 bytes)
BeginsUnpaired-take big [] begins = begins
BeginsUnpaired-take big (b ∷ []) begins = begins
BeginsUnpaired-take big (b ∷ c ∷ bytes) begins = begins

BeginsUnpaired-from : (big : Bool) (bytes : List ℕ) → BeginsUnpaired big (take 2 bytes) → BeginsUnpaired big bytes
BeginsUnpaired-from big [] begins = begins
BeginsUnpaired-from big (b ∷ []) begins = begins
BeginsUnpaired-from big (b ∷ c ∷ bytes) begins = begins

-- ---- the greatest boundary, from the bytes around an offset

module _ (big : Bool) (file : List ℕ) (at : ℕ) where
  abbrev start : ℕ
  start = around_start at

  abbrev even : ℕ
  even = at / 2 * 2

  abbrev around : List ℕ
  around = bytes_around file at

  long : length around ≡ min 4 (length file - start)
  long = length-take 4 (drop start file) ∙ ap (min 4) (length-drop start file)

  -- with a code unit before the offset's
  module _ (some : 2 ≤ even) (inside : even < length file) where
    front : take even file ≡ take start file ++ take 2 around
    front =
        ap (λ n. take n file) (omega (arith, some))
        ∙ take-add start 2 file
        ∙ ap (λ t. take start file ++ t) (sym (take-take 2 4 (drop start file) (omega arith)))

    back : drop 2 around ≡ take 2 (drop even file)
    back = drop-take 2 2 (drop start file) ∙ ap (take 2) (drop-drop 2 start file ∙ ap (λ n. drop n file) (omega (arith, some)))

    into : IsBetween big file even → IsBetween big around 2
    into between = (
      omega (arith, long, some, inside),
      refl,
      (λ ends. subst (BeginsUnpaired big) (sym back) (BeginsUnpaired-take big (drop even file) (between.2 (subst (EndsLeading big) (sym front) (EndsLeading-append big (take start file) (take 2 around) ends))))),
    )

    out : IsBetween big around 2 → IsBetween big file even
    out between = (
      inside,
      omega arith,
      (λ ends. BeginsUnpaired-from big (drop even file) (subst (BeginsUnpaired big) back (between.2 (EndsLeading-back big (take start file) (take 2 around) (omega (arith, length-take 2 around, long, some, inside)) (subst (EndsLeading big) front ends))))),
    )

  -- an even offset that is a boundary is the greatest one
  IsLastCut-even : at < length file → IsBetween big file even → IsLastCut big file at even
  IsLastCut-even inside between = record {
    cut = inr between;
    within = omega arith;
    last = λ m cut le. ⊎_elim
        (λ (end : m ≡ length file). absurd (omega (arith, end, le, inside)))
        (λ (b : IsBetween big file m). omega (arith, b.1, le))
        cut;
  }

  module _ (n : ℕ) (last : IsLastCut big around (at - start) n) where
    at_end : at ≡ length file → IsLastCut big file at (start + n)
    at_end end =
        let whole : at - start ≤ n = last.last (at - start) (inl (omega (arith, long, end))) (omega arith) in
        let here : start + n ≡ at = omega (arith, whole, last.within) in
        subst (IsLastCut big file at) (sym here) (record { cut = inl end; within = omega arith; last = λ m cut le. le })

    -- the cut is not the end of the bytes around, so it is even
    is_even : at < length file → n % 2 ≡ 0
    is_even inside = ⊎_elim
        (λ (end : n ≡ length around). omega (arith, end, long, last.within, inside))
        (λ (between : IsBetween big around n). between.1)
        last.cut

    first : at < length file → even < 2 → IsLastCut big file at (start + n)
    first inside few =
        let here : start + n ≡ even = omega (arith, few, last.within, is_even inside) in
        subst (IsLastCut big file at) (sym here) (IsLastCut-even inside (omega (arith, inside), omega arith, λ ends. absurd (omega (arith, ends.0, few, length-take even file))))

    later : at < length file → 2 ≤ even → IsLastCut big file at (start + n)
    later inside some = ⊎_elim
        (λ (less : n < 2).
        let here : start + n ≡ even - 2 = omega (arith, some, less, is_even inside) in
        let none : ¬ (IsCut big file even) = ⊎_elim
        (λ (end : even ≡ length file). absurd (omega (arith, end, inside)))
        (λ (between : IsBetween big file even). let no : 2 ≤ n = last.last 2 (inr (into some (omega (arith, inside)) between)) (omega (arith, some)) in absurd (omega (arith, no, less))) in
        subst (IsLastCut big file at) (sym here) (IsLastCut-before big file even (omega (arith, inside)) (omega arith) none at inside refl))
        (λ (more : 2 ≤ n).
        let two : n ≡ 2 = omega (arith, more, last.within, is_even inside) in
        let here : start + n ≡ even = omega (arith, two, some) in
        subst (IsLastCut big file at) (sym here) (IsLastCut-even inside (out some (omega (arith, inside)) (between two))))
        (cases_lt n 2)
      where
        between : n ≡ 2 → IsBetween big around 2
        between two = ⊎_elim
            (λ (end : n ≡ length around). absurd (omega (arith, two, end, long, some, inside)))
            (λ (b : IsBetween big around n). subst (IsBetween big around) two b)
            last.cut

    pub IsLastCut-around : at ≤ length file → IsLastCut big file at (start + n)
    IsLastCut-around le = ⊎_elim
        (λ (inside : at < length file). ⊎_elim (first inside) (later inside) (cases_lt even 2))
        (λ (not_inside : length file ≤ at). at_end (omega (arith, le, not_inside)))
        (cases_lt at (length file))
