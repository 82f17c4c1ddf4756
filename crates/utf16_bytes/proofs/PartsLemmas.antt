-- The split of bytes that are cut at ascending boundaries.
use Rattle.std.proofs.Common.{◌≡◌, inl, inr, ℕ, zero, suc, ◌+◌, ◌-◌, ◌≤◌, Bool, false, List, [], ◌∷◌, ◌++◌, All, nat_lt, length, take, drop, slice_index_or, refl, sym, ap, ◌∙◌, subst, arith, append-nil, length-drop}
use Rattle.std.proofs.Math.Seq.{take-add}
use Rattle.std.proofs.lemmas.Bool.Decides.{nat_tests}
use Rattle.std.proofs.lemmas.List.{drop-drop}
use Rattle.std.specs.List.{flat_map}
use Rattle.std.specs.List.Sorted.{IsSortedBy}
use Rattle.utf16_units.specs.Split.{BeginsUnpaired, lossy_text}
use Rattle.utf16_bytes.specs.Boundary.{EndsLeading, IsBetween, IsCut}
use Rattle.utf16_bytes.specs.CutLaws.{CutsText}
use Rattle.utf16_units.specs.Cuts.{parts_from}
use Rattle.utf16_bytes.proofs.CutLemmas.{cut_text}
use Rattle.utf16_bytes.proofs.WindowLemmas.{EndsLeading-append}

-- the start is a boundary
pub IsCut-start : (big : Bool) (bytes : List ℕ) → IsCut big bytes 0
IsCut-start big [] = inl refl
IsCut-start big (b ∷ bytes) = inr (omega arith, refl, λ ends. absurd (omega (arith, ends.0)))

module _ (big : Bool) (bytes : List ℕ) (n m : ℕ) (le : n ≤ m) where
  whole : n + (m - n) ≡ m
  whole = omega arith

  at_end : m ≡ length bytes → IsCut big (drop n bytes) (m - n)
  at_end end = inl (omega (arith, end, length-drop n bytes))

  between : IsBetween big bytes n → IsBetween big bytes m → IsBetween big (drop n bytes) (m - n)
  between first second = (
    omega (arith, second.0, length-drop n bytes),
    omega (arith, first.1, second.1),
    (λ ends.
        let before : take m bytes ≡ take n bytes ++ take (m - n) (drop n bytes) = ap (λ k. take k bytes) (sym whole) ∙ take-add n (m - n) bytes in
        let after : drop (m - n) (drop n bytes) ≡ drop m bytes = drop-drop (m - n) n bytes ∙ ap (λ k. drop k bytes) whole in
        subst (BeginsUnpaired big) (sym after) (second.2 (subst (EndsLeading big) (sym before) (EndsLeading-append big (take n bytes) (take (m - n) (drop n bytes)) ends)))),
  )

  -- a boundary is also one in the part from an earlier boundary on
  pub IsCut-drop : IsCut big bytes n → IsCut big bytes m → IsCut big (drop n bytes) (m - n)
  IsCut-drop first (inl end) = at_end end
  IsCut-drop (inl end) (inr second) = absurd (omega (arith, end, second.0, le))
  IsCut-drop (inr first) (inr second) = inr (between first second)

  -- so the text from the earlier boundary on is cut at the later one
  pub cut_text-from : IsCut big bytes n → IsCut big bytes m
      → lossy_text big (drop n bytes) ≡ lossy_text big (take (m - n) (drop n bytes)) ++ lossy_text big (drop m bytes)
  cut_text-from first second =
      cut_text big (drop n bytes) (m - n) (IsCut-drop first second)
      ∙ ap (λ rest. lossy_text big (take (m - n) (drop n bytes)) ++ lossy_text big rest) (drop-drop (m - n) n bytes ∙ ap (λ k. drop k bytes) whole)

-- a list ascends without its first element, and with 0 before it
abbrev step : (x : ℕ) (xs : List ℕ) (k i d : ℕ) → Type 0
step x xs k i d = nat_lt (slice_index_or (x ∷ xs) i d) (slice_index_or (x ∷ xs) (suc k) d) ≡ false

IsSortedBy-rest : (x : ℕ) (xs : List ℕ) → IsSortedBy nat_lt (x ∷ xs) → IsSortedBy nat_lt xs
IsSortedBy-rest x xs ascend k d low high =
    let same : suc k + 1 ≡ suc (k + 1) = omega arith in
    subst (λ i. step x xs k i d) same (ascend (suc k) d (omega arith) (omega (arith, high)))

IsSortedBy-zero : (xs : List ℕ) → IsSortedBy nat_lt xs → IsSortedBy nat_lt (0 ∷ xs)
IsSortedBy-zero xs ascend zero d low high = grind (arith, nat_tests)
IsSortedBy-zero xs ascend (suc k) d low high =
    let same : suc (k + 1) ≡ suc k + 1 = omega arith in
    subst (λ i. step 0 xs k i d) same (ascend k d (omega arith) (omega (arith, high)))

module _ (big : Bool) (bytes : List ℕ) where
  from : (start : ℕ) (offsets : List ℕ) → IsSortedBy nat_lt (start ∷ offsets) → All (IsCut big bytes) (start ∷ offsets)
      → lossy_text big (drop start bytes) ≡ flat_map (lossy_text big) (parts_from bytes start offsets)
  from start [] ascend cuts = sym (append-nil (lossy_text big (drop start bytes)))
  from start (at ∷ offsets) ascend cuts =
      let first : nat_lt at start ≡ false = ascend 0 0 (omega arith) (omega arith) in
      let le : start ≤ at = grind (arith, nat_tests) in
      cut_text-from big bytes start at le (cuts 0 0 (omega arith)) (cuts 1 0 (omega arith))
      ∙ ap (λ rest. lossy_text big (take (at - start) (drop start bytes)) ++ rest)
      (from at offsets (IsSortedBy-rest start (at ∷ offsets) ascend) (λ k d high. cuts (suc k) d (omega (arith, high))))

pub cuts_text : CutsText
cuts_text big bytes offsets ascend cuts = from big bytes 0 offsets (IsSortedBy-zero offsets ascend) all where
  all : All (IsCut big bytes) (0 ∷ offsets)
  all zero d high = IsCut-start big bytes
  all (suc k) d high = cuts k d (omega (arith, high))
