-- The bytes before the tail: how many they are, and their text.
use Rattle.std.proofs.Common.{◌≡◌, ℕ, zero, suc, ◌+◌, ◌-◌, ◌*◌, ◌/◌, ◌%◌, ◌<◌, ◌≤◌, Bool, true, false, List, [], ◌∷◌, ◌++◌, All, length, slice_index, take, drop, refl, sym, ap, ap₂, ◌∙◌, subst, ⊎_elim, arith, append-nil, length-drop, length-take-le, take-append-drop, take_all}
use Rattle.std.proofs.lemmas.Bool.{cases_Bool}
use Rattle.std.proofs.lemmas.List.{drop_all, map-append}
use Rattle.std.proofs.lemmas.List.Elements.{All-cons, All-head, All-nil, All-tail}
use Rattle.std.specs.Char.{IsScalar}
use Rattle.utf16_units.specs.Unit.{IsLeading, unit_of}
use Rattle.utf16_units.specs.Encoding.{encode}
use Rattle.utf16_units.specs.IllFormed.{is_incomplete}
use Rattle.utf16_units.specs.Split.{whole_lossy_chars, IsItem, IsTail, Item, good, lone_lead, lone_trail, lossy_char, lossy_chars, lossy_text, put_leading, split_items, split_tail}
use Rattle.utf16_units.proofs.BackChar.{first_unit-drop}
use Rattle.utf16_units.proofs.Computed.{is_incomplete-from_IsIncomplete}
use Rattle.utf16_units.proofs.FirstChar.{AreBytes, first_unit}
use Rattle.utf16_units.proofs.SplitJoin.{split_items-append, split_tail-append}
use Rattle.utf16_units.proofs.SplitLemmas.{Split-computed, cut_tail, not_cut, put_unit-leading, whole_items, whole_tail}
use Rattle.utf16_units.proofs.SplitUnique.{IsTail-split_tail}
use Rattle.utf16_transcode.proofs.DecodesLemmas.{length-split_tail-le, tail_at_end, undecided_items}
use Rattle.utf16_transcode.proofs.ToUtf8Parts.{whole_lossy_chars-is}

-- ---- where the tail begins, by the last complete unit

short_tail : (big : Bool) (bytes : List ℕ) → length bytes < 2 → length (split_tail big bytes) ≡ length bytes
unfolding split_tail
short_tail big [] few = refl
short_tail big (x ∷ []) few = refl
short_tail big (x ∷ y ∷ bytes) few = absurd (omega arith)

-- the tail is the tail of the last two or three bytes
tail_from : (big : Bool) (n : ℕ) (bytes : List ℕ) → n + n + 2 ≤ length bytes → split_tail big bytes ≡ split_tail big (drop (n + n) bytes)
tail_from big zero bytes long = refl
tail_from big (suc n) [] long = absurd (omega arith)
tail_from big (suc n) (x ∷ []) long = absurd (omega arith)
tail_from big (suc n) (x ∷ y ∷ bytes) long =
    let next : suc (suc (n + n)) ≡ suc n + suc n = omega arith in
    whole_tail big x y bytes (not_cut big x y bytes (λ l. omega arith)) ∙ tail_from big n bytes (omega arith) ∙ ap (λ k. split_tail big (drop k (x ∷ y ∷ bytes))) next

-- these are a tail if they begin with a leading unit, and otherwise the tail is what follows it
last_tail : (big : Bool) (last : List ℕ) → 2 ≤ length last → length last ≤ 3
    → (IsLeading (first_unit big last) → length (split_tail big last) ≡ length last) × (¬ (IsLeading (first_unit big last)) → length (split_tail big last) + 2 ≡ length last)
last_tail big [] long short = absurd (omega arith)
last_tail big (x ∷ []) long short = absurd (omega arith)
last_tail big (x ∷ y ∷ after) long short = (
  λ l. ap length (cut_tail big x y after (is_incomplete-from_IsIncomplete big (x ∷ y ∷ after) (l, omega arith))),
  λ n. omega (arith, ap length (whole_tail big x y after (not_cut big x y after (λ l. absurd (n l)))), short_tail big after (omega arith)),
)

module _ (big : Bool) (bytes : List ℕ) (whole : ℕ) (is : whole ≡ length bytes / 2 * 2) where
  pub no_unit_tail : whole ≡ 0 → whole + length (split_tail big bytes) ≡ length bytes
  no_unit_tail none = omega (arith, is, none, short_tail big bytes (omega (arith, is, none)))

  module _ (some : 0 < whole) where
    abbrev last_unit : ℕ
    last_unit = unit_of big (slice_index bytes (whole - 2)) (slice_index bytes (whole - 1))

    last : List ℕ
    last = drop (whole - 2) bytes

    same_unit : first_unit big last ≡ last_unit
    unfolding last
    same_unit = first_unit-drop big bytes (whole - 2) ∙ ap (λ i. unit_of big (slice_index bytes (whole - 2)) (slice_index bytes i)) (omega (arith, is, some))

    same_tail : split_tail big bytes ≡ split_tail big last
    unfolding last
    same_tail = tail_from big (length bytes / 2 - 1) bytes (omega (arith, is, some)) ∙ ap (λ k. split_tail big (drop k bytes)) (omega (arith, is, some))

    long : length last ≡ length bytes - (whole - 2)
    unfolding last
    long = length-drop (whole - 2) bytes

    ends : (IsLeading (first_unit big last) → length (split_tail big last) ≡ length last) × (¬ (IsLeading (first_unit big last)) → length (split_tail big last) + 2 ≡ length last)
    ends = last_tail big last (omega (arith, is, some, long)) (omega (arith, is, some, long))

    pub leading_tail : IsLeading last_unit → whole - 2 + length (split_tail big bytes) ≡ length bytes
    leading_tail l = omega (arith, is, some, long, ap length same_tail, ends.0 (subst IsLeading (sym same_unit) l))

    pub whole_unit_tail : ¬ (IsLeading last_unit) → whole + length (split_tail big bytes) ≡ length bytes
    whole_unit_tail n = omega (arith, is, some, long, ap length same_tail, ends.1 (λ l. n (subst IsLeading same_unit l)))

-- ---- the text of the bytes before the tail

module _ (big : Bool) where
  -- with more bytes before it, a tail gets longer, or a unit is complete
  complete : (x y : ℕ) (after last : List ℕ) → length last ≤ length after → split_tail big (x ∷ y ∷ after) ≡ last → is_incomplete big (x ∷ y ∷ after) ≡ false
  complete x y after last short same = ⊎_elim
      (λ (cut : is_incomplete big (x ∷ y ∷ after) ≡ true). absurd (omega (arith, short, ap length (sym (cut_tail big x y after cut) ∙ same))))
      (λ (whole : is_incomplete big (x ∷ y ∷ after) ≡ false). whole)
      (cases_Bool (is_incomplete big (x ∷ y ∷ after)))

  one_before : (x : ℕ) (last : List ℕ) → ¬ (split_tail big (x ∷ last) ≡ last)
  unfolding split_tail
  one_before x [] same = absurd (cc)
  one_before x (y ∷ after) same =
      ⊎_elim
      (λ (cut : is_incomplete big (x ∷ y ∷ after) ≡ true). omega (arith, ap length (sym (cut_tail big x y after cut) ∙ same)))
      (λ (whole : is_incomplete big (x ∷ y ∷ after) ≡ false). omega (arith, ap length (sym (whole_tail big x y after whole) ∙ same), length-split_tail-le big after))
      (cases_Bool (is_incomplete big (x ∷ y ∷ after)))

  -- what the bytes before the tail leave is nothing, or a leading unit that the tail shows to be
  -- unpaired
  left_shown : (left last : List ℕ) → IsTail big left → split_tail big (left ++ last) ≡ last → lossy_chars (split_items big (left ++ last)) ≡ whole_lossy_chars [] left
  unfolding put_leading
  left_shown [] last ends same = ap lossy_chars (undecided_items big last same)
  left_shown (x ∷ []) last ends same = absurd (one_before x last same)
  left_shown (x ∷ y ∷ []) last ends same =
      let whole = complete x y last last (omega arith) same in
      ap lossy_chars (whole_items big x y last whole ∙ put_unit-leading (unit_of big x y) (split_items big last) ends.0
      ∙ ap (put_leading (unit_of big x y)) (undecided_items big last (sym (whole_tail big x y last whole) ∙ same)))
  left_shown (x ∷ y ∷ z ∷ []) last ends same =
      let whole = complete x y (z ∷ last) last (omega arith) same in
      absurd (one_before z last (sym (whole_tail big x y (z ∷ last) whole) ∙ same))
  left_shown (x ∷ y ∷ z ∷ w ∷ left) last ends same = absurd (omega (arith, ends.1))

module _ (big : Bool) (bytes : List ℕ) (n : ℕ) (ends : n + length (split_tail big bytes) ≡ length bytes) where
  joined : take n bytes ++ split_tail big bytes ≡ bytes
  joined =
      let from : length bytes - length (split_tail big bytes) ≡ n = omega (arith, ends) in
      ap (λ t. take n bytes ++ t) (tail_at_end big bytes ∙ ap (λ k. drop k bytes) from) ∙ take-append-drop n bytes

  pub decided_text : lossy_text big (take n bytes) ≡ lossy_chars (split_items big bytes)
  decided_text =
      let front = take n bytes in
      let left = split_tail big front in
      let tail = split_tail big bytes in
      whole_lossy_chars-is (split_items big front) left
      ∙ ap (λ t. lossy_chars (split_items big front) ++ t) (sym (left_shown big left tail (IsTail-split_tail big front) (sym (split_tail-append big front tail) ∙ ap (split_tail big) joined)))
      ∙ sym (map-append lossy_char (split_items big front) (split_items big (left ++ tail)))
      ∙ ap lossy_chars (sym (split_items-append big front tail) ∙ ap (split_items big) joined)

  -- so it is the text of a well-formed copy of these bytes
  pub decided_copy : (old new : List ℕ) → old ≡ take n bytes → n % 2 ≡ 0 → new ≡ encode big (lossy_text big (take (length old / 2 * 2) old)) ++ drop (length old / 2 * 2) old
      → new ≡ encode big (lossy_chars (split_items big bytes))
  decided_copy old new copied even mended =
      let all : length old ≤ length old / 2 * 2 = omega (arith, ends, even, ap length copied, length-take-le n bytes (omega (arith, ends))) in
      mended ∙ ap₂ (λ b rest. encode big (lossy_text big b) ++ rest) (take_all _ old all) (drop_all _ old all) ∙ append-nil _
      ∙ ap (λ b. encode big (lossy_text big b)) copied ∙ ap (encode big) decided_text

-- the characters are scalar values
item_scalar : (item : Item) → IsItem item → IsScalar (lossy_char item)
item_scalar (good c) is = is
item_scalar (lone_trail unit) is = refl
item_scalar (lone_lead unit) is = refl

items_scalar : (items : List Item) → All IsItem items → All IsScalar (lossy_chars items)
items_scalar [] are = All-nil IsScalar
items_scalar (item ∷ items) are =
    All-cons IsScalar (lossy_char item) (lossy_chars items) (item_scalar item (All-head IsItem item items are)) (items_scalar items (All-tail IsItem item items are))

pub decided_scalars : (big : Bool) (bytes : List ℕ) → AreBytes bytes → All IsScalar (lossy_chars (split_items big bytes))
decided_scalars big bytes are = items_scalar (split_items big bytes) (Split-computed big bytes are).made
