-- The split of a stream by its chunks: the tail of one chunk comes before the next.
use Rattle.std.proofs.Common.{◌≡◌, ℕ, ◌≤◌, Bool, true, false, List, [], ◌∷◌, ◌++◌, length, take, map, take_at, refl, sym, ap, ap₂, ◌∙◌, subst, ⊎_elim, arith, length-append}
use Rattle.std.proofs.lemmas.Bool.{cases_Bool}
use Rattle.utf16_units.specs.Unit.{IsLeading, IsTrailing, unit_of}
use Rattle.utf16_units.specs.Encoding.{Encodes}
use Rattle.utf16_units.specs.IllFormed.{is_incomplete}
use Rattle.utf16_units.specs.Split.{Item, good, lone_lead, lone_trail, put_leading, put_unit, split_items, split_tail}
use Rattle.utf16_units.proofs.Computed.{IsIncomplete-from_is_incomplete}
use Rattle.utf16_units.proofs.SplitLemmas.{Class, class_of, leading, trailing, neither, cut_items, cut_tail, not_cut, not_cut_long, put_unit-leading, put_unit-neither, put_unit-trailing, whole_items, whole_tail}
use Rattle.utf16_units.proofs.SplitUnique.{computed-encode}

-- ---- items after items

-- the items do not start with an unpaired trailing unit
abbrev pub BeginsNoTrail : List Item → Type 0
BeginsNoTrail [] = Unit {0}
BeginsNoTrail (good c ∷ items) = Unit {0}
BeginsNoTrail (lone_trail unit ∷ items) = ⊥
BeginsNoTrail (lone_lead unit ∷ items) = Unit {0}

-- a leading unit before such items stays unpaired
pub put_leading-no_trail : (lead : ℕ) (items : List Item) → BeginsNoTrail items → put_leading lead items ≡ lone_lead lead ∷ items
unfolding put_leading
put_leading-no_trail lead [] begins = refl
put_leading-no_trail lead (good c ∷ items) begins = refl
put_leading-no_trail lead (lone_trail trail ∷ items) begins = absurd begins
put_leading-no_trail lead (lone_lead next ∷ items) begins = refl

BeginsNoTrail-put_leading : (lead : ℕ) (items : List Item) → BeginsNoTrail (put_leading lead items)
unfolding put_leading
BeginsNoTrail-put_leading lead [] = tt
BeginsNoTrail-put_leading lead (good c ∷ items) = tt
BeginsNoTrail-put_leading lead (lone_trail trail ∷ items) = tt
BeginsNoTrail-put_leading lead (lone_lead next ∷ items) = tt

BeginsNoTrail-put_unit : (unit : ℕ) (items : List Item) → ¬ (IsTrailing unit) → BeginsNoTrail (put_unit unit items)
BeginsNoTrail-put_unit unit items not_trailing = by_class (class_of unit) where
  by_class : Class unit → BeginsNoTrail (put_unit unit items)
  by_class (leading l) = subst BeginsNoTrail (sym (put_unit-leading unit items l)) (BeginsNoTrail-put_leading unit items)
  by_class (trailing t) = absurd (not_trailing t)
  by_class (neither l t) = subst BeginsNoTrail (sym (put_unit-neither unit items l t)) tt

-- bytes that do not start with a trailing unit have such items
pub BeginsNoTrail-split_items : (big : Bool) (first second : ℕ) (bytes : List ℕ) → ¬ (IsTrailing (unit_of big first second))
    → BeginsNoTrail (split_items big (first ∷ second ∷ bytes))
BeginsNoTrail-split_items big first second bytes not_trailing = ⊎_elim
    (λ (cut : is_incomplete big (first ∷ second ∷ bytes) ≡ true). subst BeginsNoTrail (sym (cut_items big first second bytes cut)) tt)
    (λ (whole : is_incomplete big (first ∷ second ∷ bytes) ≡ false).
    subst BeginsNoTrail (sym (whole_items big first second bytes whole))
    (BeginsNoTrail-put_unit (unit_of big first second) (split_items big bytes) not_trailing))
    (cases_Bool (is_incomplete big (first ∷ second ∷ bytes)))

-- a leading unit before items, and more items after them
put_leading-some : (lead : ℕ) (item : Item) (items more : List Item) → put_leading lead (item ∷ (items ++ more)) ≡ put_leading lead (item ∷ items) ++ more
unfolding put_leading
put_leading-some lead (good c) items more = refl
put_leading-some lead (lone_trail trail) items more = refl
put_leading-some lead (lone_lead next) items more = refl

put_leading-append : (lead : ℕ) (items more : List Item) → (items ≡ [] → BeginsNoTrail more) → put_leading lead (items ++ more) ≡ put_leading lead items ++ more
put_leading-append lead [] more begins = put_leading-no_trail lead more (begins refl) ∙ ap (λ t. t ++ more) (sym (put_leading-no_trail lead [] tt))
put_leading-append lead (item ∷ items) more begins = put_leading-some lead item items more

-- a unit before items, and more items after them
put_unit-append : (unit : ℕ) (items more : List Item) → (IsLeading unit → items ≡ [] → BeginsNoTrail more)
    → put_unit unit (items ++ more) ≡ put_unit unit items ++ more
put_unit-append unit items more begins = by_class (class_of unit) where
  by_class : Class unit → put_unit unit (items ++ more) ≡ put_unit unit items ++ more
  by_class (leading l) =
      put_unit-leading unit (items ++ more) l ∙ put_leading-append unit items more (begins l)
      ∙ ap (λ t. t ++ more) (sym (put_unit-leading unit items l))
  by_class (trailing t) = put_unit-trailing unit (items ++ more) t ∙ ap (λ i. i ++ more) (sym (put_unit-trailing unit items t))
  by_class (neither l t) = put_unit-neither unit (items ++ more) l t ∙ ap (λ i. i ++ more) (sym (put_unit-neither unit items l t))

-- ---- one chunk and then the next

-- a unit before items leaves some
pub some_put_unit : (unit : ℕ) (items : List Item) → ¬ (put_unit unit items ≡ [])
unfolding put_leading
some_put_unit unit items none = by_class (class_of unit) where
  some : (items : List Item) → ¬ (put_leading unit items ≡ [])
  some [] e = absurd (cc)
  some (good c ∷ items) e = absurd (cc)
  some (lone_trail trail ∷ items) e = absurd (cc)
  some (lone_lead next ∷ items) e = absurd (cc)

  by_class : Class unit → ⊥
  by_class (leading l) = some items (sym (put_unit-leading unit items l) ∙ none)
  by_class (trailing t) =
      let e : lone_trail unit ∷ items ≡ [] = sym (put_unit-trailing unit items t) ∙ none in
      absurd (cc)
  by_class (neither l t) =
      let e : good unit ∷ items ≡ [] = sym (put_unit-neither unit items l t) ∙ none in
      absurd (cc)

-- two bytes or more that have no item are truncated: they start with a leading unit, and followed
-- by more bytes they do too
more_begins : (big : Bool) (bytes back : List ℕ) → 2 ≤ length bytes → split_items big bytes ≡ [] → BeginsNoTrail (split_items big (split_tail big bytes ++ back))
more_begins big [] back long none = absurd (omega arith)
more_begins big (last ∷ []) back long none = absurd (omega arith)
more_begins big (first ∷ second ∷ bytes) back long none = ⊎_elim
    (λ (cut : is_incomplete big (first ∷ second ∷ bytes) ≡ true).
    let lead = (IsIncomplete-from_is_incomplete big (first ∷ second ∷ bytes) cut).0 in
    subst (λ t. BeginsNoTrail (split_items big (t ++ back))) (sym (cut_tail big first second bytes cut))
    (BeginsNoTrail-split_items big first second (bytes ++ back) (λ t. omega arith)))
    (λ (whole : is_incomplete big (first ∷ second ∷ bytes) ≡ false).
    absurd (some_put_unit (unit_of big first second) (split_items big bytes) (sym (whole_items big first second bytes whole) ∙ none)))
    (cases_Bool (is_incomplete big (first ∷ second ∷ bytes)))

-- a unit that is not truncated is not truncated with more bytes after it either
whole_then : (big : Bool) (first second : ℕ) (bytes back : List ℕ) → is_incomplete big (first ∷ second ∷ bytes) ≡ false
    → is_incomplete big (first ∷ second ∷ (bytes ++ back)) ≡ false
whole_then big first second bytes back whole =
    not_cut big first second (bytes ++ back)
    (λ l.
    let long = not_cut_long big first second bytes whole l in
    let both = length-append bytes back in
    omega arith)

module _ (big : Bool) (first second : ℕ) (bytes back : List ℕ) where
  abbrev piece : List ℕ
  piece = first ∷ second ∷ bytes

  two_more : split_items big (bytes ++ back) ≡ split_items big bytes ++ split_items big (split_tail big bytes ++ back)
      → split_items big (piece ++ back) ≡ split_items big piece ++ split_items big (split_tail big piece ++ back)
  two_more behind =
      let unit = unit_of big first second in
      let more = split_items big (split_tail big bytes ++ back) in
      ⊎_elim
      (λ (cut : is_incomplete big piece ≡ true).
      ap₂ (λ i t. i ++ split_items big (t ++ back)) (sym (cut_items big first second bytes cut)) (sym (cut_tail big first second bytes cut)))
      (λ (whole : is_incomplete big piece ≡ false).
      whole_items big first second (bytes ++ back) (whole_then big first second bytes back whole)
      ∙ ap (put_unit unit) behind
      ∙ put_unit-append unit (split_items big bytes) more (λ l none. more_begins big bytes back (not_cut_long big first second bytes whole l) none)
      ∙ ap₂ (λ i t. i ++ split_items big (t ++ back)) (sym (whole_items big first second bytes whole)) (sym (whole_tail big first second bytes whole)))
      (cases_Bool (is_incomplete big piece))

  two_more_tail : split_tail big (bytes ++ back) ≡ split_tail big (split_tail big bytes ++ back)
      → split_tail big (piece ++ back) ≡ split_tail big (split_tail big piece ++ back)
  two_more_tail behind = ⊎_elim
      (λ (cut : is_incomplete big piece ≡ true). ap (λ t. split_tail big (t ++ back)) (sym (cut_tail big first second bytes cut)))
      (λ (whole : is_incomplete big piece ≡ false).
      whole_tail big first second (bytes ++ back) (whole_then big first second bytes back whole) ∙ behind
      ∙ ap (λ t. split_tail big (t ++ back)) (sym (whole_tail big first second bytes whole)))
      (cases_Bool (is_incomplete big piece))

-- the items of two chunks are the items of the first, and then of its tail followed by the second
pub split_items-append : (big : Bool) (front back : List ℕ) → split_items big (front ++ back) ≡ split_items big front ++ split_items big (split_tail big front ++ back)
unfolding split_items split_tail
split_items-append big [] back = refl
split_items-append big (last ∷ []) back = refl
split_items-append big (first ∷ second ∷ bytes) back = two_more big first second bytes back (split_items-append big bytes back)

-- and the tail is the tail of the first chunk's tail followed by the second
pub split_tail-append : (big : Bool) (front back : List ℕ) → split_tail big (front ++ back) ≡ split_tail big (split_tail big front ++ back)
unfolding split_tail
split_tail-append big [] back = refl
split_tail-append big (last ∷ []) back = refl
split_tail-append big (first ∷ second ∷ bytes) back = two_more_tail big first second bytes back (split_tail-append big bytes back)

-- the items of a prefix are a prefix of the items of the whole
pub split_items-front : (big : Bool) (front back : List ℕ) → take (length (split_items big front)) (split_items big (front ++ back)) ≡ split_items big front
split_items-front big front back =
    ap (take (length (split_items big front))) (split_items-append big front back)
    ∙ take_at (split_items big front) (split_items big (split_tail big front ++ back)) (length (split_items big front)) refl

-- a text's characters come first, and then the split of what follows
pub split_items-text : (big : Bool) (text front back : List ℕ) → Encodes big text front → split_items big (front ++ back) ≡ map good text ++ split_items big back
split_items-text big text front back e =
    let computed = computed-encode big text e.scalars in
    let items : split_items big front ≡ map good text = ap (split_items big) (sym e.spelled) ∙ computed.0 in
    let none : split_tail big front ≡ [] = ap (split_tail big) (sym e.spelled) ∙ computed.1 in
    split_items-append big front back ∙ ap₂ (λ i t. i ++ split_items big (t ++ back)) items none

pub split_tail-text : (big : Bool) (text front back : List ℕ) → Encodes big text front → split_tail big (front ++ back) ≡ split_tail big back
split_tail-text big text front back e =
    let none : split_tail big front ≡ [] = ap (split_tail big) (sym e.spelled) ∙ (computed-encode big text e.scalars).1 in
    split_tail-append big front back ∙ ap (λ t. split_tail big (t ++ back)) none
