-- The split of bytes that are cut between two code units.
use Rattle.std.proofs.Common.{◌≡◌, ◌⊎◌, inl, inr, ⊎_elim, ℕ, zero, suc, ◌+◌, ◌-◌, ◌/◌, ◌≤◌, Bool, true, false, List, [], ◌∷◌, ◌++◌, length, take, drop, slice_index, refl, sym, ap, ap₂, ◌∙◌, subst, arith, append-nil, append_assoc, length-take-le, take_all, take-append-drop}
use Rattle.std.proofs.lemmas.Bool.{cases_Bool}
use Rattle.std.proofs.lemmas.List.{drop_all}
use Rattle.utf16_units.specs.IllFormed.{is_incomplete}
use Rattle.utf16_units.specs.Split.{BeginsUnpaired, Item, lone_lead, lossy_chars, lossy_text, split_items, split_tail, whole_lossy_chars}
use Rattle.utf16_units.specs.Unit.{IsLeading, unit_of}
use Rattle.utf16_units.proofs.Computed.{IsIncomplete-from_is_incomplete}
use Rattle.utf16_units.proofs.SplitJoin.{BeginsNoTrail-split_items, put_leading-no_trail, split_items-append, split_tail-append}
use Rattle.utf16_units.proofs.SplitLemmas.{cut_tail, put_unit-leading, whole_items, whole_tail}
use Rattle.utf16_bytes.proofs.TextLemmas.{nil_text, whole_lossy_chars-append}
use Rattle.utf16_bytes.specs.Boundary.{EndsLeading}
use Rattle.utf16_bytes.specs.CutLaws.{CutText}

-- ---- what whole code units leave

-- they leave a leading surrogate, their last unit
record Leaves (big : Bool) (front : List ℕ) : Type 0 where
  first : ℕ
  second : ℕ
  tail : split_tail big front ≡ first ∷ second ∷ []
  leading : IsLeading (unit_of big first second)
  ends : EndsLeading big front

-- a unit before some bytes does not change their last unit
EndsLeading-cons : (big : Bool) (x y : ℕ) (bytes : List ℕ) → EndsLeading big bytes → EndsLeading big (x ∷ y ∷ bytes)
EndsLeading-cons big x y bytes ends =
    let all = x ∷ y ∷ bytes in
    let first : length all - 2 ≡ suc (suc (length bytes - 2)) = omega (arith, ends.0) in
    let second : length all - 1 ≡ suc (suc (length bytes - 1)) = omega (arith, ends.0) in
    (omega arith, subst IsLeading (ap₂ (unit_of big) (ap (slice_index all) (sym first)) (ap (slice_index all) (sym second))) ends.1)

left : (big : Bool) (n : ℕ) (front : List ℕ) → length front ≡ n + n → (split_tail big front ≡ []) ⊎ Leaves big front
unfolding split_tail
left big zero [] long = inl refl
left big zero (x ∷ front) long = absurd (omega (arith, long))
left big (suc n) [] long = absurd (omega (arith, long))
left big (suc n) (x ∷ []) long = absurd (omega (arith, long))
left big (suc n) (x ∷ y ∷ front) long = ⊎_elim
    (λ (cut : is_incomplete big (x ∷ y ∷ front) ≡ true).
    inr (last front (omega (arith, long)) (IsIncomplete-from_is_incomplete big (x ∷ y ∷ front) cut) (cut_tail big x y front cut)))
    (λ (whole : is_incomplete big (x ∷ y ∷ front) ≡ false). further (whole_tail big x y front whole) (left big n front (omega (arith, long))))
    (cases_Bool (is_incomplete big (x ∷ y ∷ front)))
  where
    last : (after : List ℕ) → length after ≡ n + n → IsLeading (unit_of big x y) × (length after ≤ 1)
        → split_tail big (x ∷ y ∷ after) ≡ x ∷ y ∷ after → Leaves big (x ∷ y ∷ after)
    last [] even cut tail = record { first = x; second = y; tail = tail; leading = cut.0; ends = (omega arith, cut.0) }
    last (b ∷ []) even cut tail = absurd (omega (arith, even))
    last (b ∷ c ∷ after) even cut tail = absurd (omega (arith, cut.1))

    further : split_tail big (x ∷ y ∷ front) ≡ split_tail big front → (split_tail big front ≡ []) ⊎ Leaves big front
        → (split_tail big (x ∷ y ∷ front) ≡ []) ⊎ Leaves big (x ∷ y ∷ front)
    further same (inl none) = inl (same ∙ none)
    further same (inr l) = inr (record { first = l.first; second = l.second; tail = same ∙ l.tail; leading = l.leading; ends = EndsLeading-cons big x y front l.ends })

-- ---- the law

module _ (big : Bool) (front back : List ℕ) where
  -- nothing is left before the cut
  cut_clean : split_tail big front ≡ [] → lossy_text big (front ++ back) ≡ lossy_text big front ++ lossy_text big back
  cut_clean none =
      ap₂ whole_lossy_chars
      (split_items-append big front back ∙ ap (λ t. split_items big front ++ split_items big (t ++ back)) none)
      (split_tail-append big front back ∙ ap (λ t. split_tail big (t ++ back)) none)
      ∙ whole_lossy_chars-append (split_items big front) (split_items big back) (split_tail big back)
      ∙ ap (λ t. t ++ lossy_text big back) (sym (ap (whole_lossy_chars (split_items big front)) none))

  -- a leading surrogate is left, and no trailing one follows
  cut_unpaired : Leaves big front → BeginsUnpaired big back → lossy_text big (front ++ back) ≡ lossy_text big front ++ lossy_text big back
  cut_unpaired l begins =
      let next = unpaired back begins in
      ap₂ whole_lossy_chars
      (split_items-append big front back ∙ ap (λ t. split_items big front ++ split_items big (t ++ back)) l.tail ∙ ap (λ i. split_items big front ++ i) next.0)
      (split_tail-append big front back ∙ ap (λ t. split_tail big (t ++ back)) l.tail ∙ next.1)
      ∙ whole_lossy_chars-append (split_items big front) (lone_lead unit ∷ split_items big back) (split_tail big back)
      ∙ ap (λ t. lossy_chars (split_items big front) ++ t) (replaced (split_items big back) (split_tail big back))
      ∙ sym (append_assoc (lossy_chars (split_items big front)) (0xFFFD ∷ []) (lossy_text big back))
      ∙ ap (λ t. t ++ lossy_text big back) (sym (ap (whole_lossy_chars (split_items big front)) l.tail))
    where
      unit : ℕ
      unit = unit_of big l.first l.second

      replaced : (items : List Item) (tail : List ℕ) → whole_lossy_chars (lone_lead unit ∷ items) tail ≡ 0xFFFD ∷ whole_lossy_chars items tail
      replaced items [] = refl
      replaced items (b ∷ tail) = refl

      unpaired : (rest : List ℕ) → BeginsUnpaired big rest
          → (split_items big (l.first ∷ l.second ∷ rest) ≡ lone_lead unit ∷ split_items big rest)
          × (split_tail big (l.first ∷ l.second ∷ rest) ≡ split_tail big rest)
      unpaired [] begins = absurd begins
      unpaired (b ∷ []) begins = absurd begins
      unpaired (third ∷ fourth ∷ rest) begins =
          let all = l.first ∷ l.second ∷ third ∷ fourth ∷ rest in
          let whole : is_incomplete big all ≡ false = ⊎_elim
          (λ (cut : is_incomplete big all ≡ true). let few = (IsIncomplete-from_is_incomplete big all cut).1 in absurd (omega (arith, few)))
          (λ (no : is_incomplete big all ≡ false). no)
          (cases_Bool (is_incomplete big all)) in (
            whole_items big l.first l.second (third ∷ fourth ∷ rest) whole
                ∙ put_unit-leading unit (split_items big (third ∷ fourth ∷ rest)) l.leading
                ∙ put_leading-no_trail unit (split_items big (third ∷ fourth ∷ rest)) (BeginsNoTrail-split_items big third fourth rest begins),
            whole_tail big l.first l.second (third ∷ fourth ∷ rest) whole,
          )

pub cut_text : CutText
cut_text big bytes at (inl end) =
    let rest = drop_all at bytes (omega (arith, end)) in
    sym (append-nil (lossy_text big bytes))
    ∙ ap₂ (λ t u. t ++ u) (ap (lossy_text big) (sym (take_all at bytes (omega (arith, end))))) (sym (ap (lossy_text big) rest ∙ nil_text big))
cut_text big bytes at (inr between) =
    let front = take at bytes in
    let back = drop at bytes in
    let long = length-take-le at bytes (omega (arith, between.0)) in
    ap (lossy_text big) (sym (take-append-drop at bytes))
    ∙ ⊎_elim (cut_clean big front back) (λ (l : Leaves big front). cut_unpaired big front back l (between.2 l.ends))
    (left big (at / 2) front (omega (arith, long, between.1)))
