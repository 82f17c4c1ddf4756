-- The split at an ill-formed sequence: the characters before it, the sequence, and the split after
-- it.
use Rattle.std.proofs.Common.{◌≡◌, ℕ, suc, ◌+◌, ◌<◌, ◌≤◌, ◌⊎◌, Bool, true, false, List, [], ◌∷◌, ◌++◌, Option, None, Some, length, take, drop, map, take_all, refl, sym, ap, ◌∙◌, subst, ⊎_elim, inl, inr, arith, append-nil, length-drop, take-append-drop, le-leb, le-ltb, lt-ltb}
use Rattle.std.specs.Prelude.{if◌then◌else◌}
use Rattle.std.specs.Char.Utf16.{is_high_surrogate}
use Rattle.std.proofs.lemmas.List.{drop-drop, get_or-drop, get_or-take, get_or_past, length-take, take_rest}
use Rattle.std.proofs.lemmas.Bool.{cases_lt, cases_Bool}
use Rattle.utf16_units.specs.Unit.{IsLeading, IsTrailing, unit_of}
use Rattle.utf16_units.specs.Encoding.{IsUtf16, text_of}
use Rattle.utf16_units.specs.IllFormed.{BeginsWithChar, IsIncomplete, IsErrorLen, IsIllFormed, IsUtf16ValidUpTo, is_incomplete}
use Rattle.utf16_units.specs.Split.{Item, good, lone_lead, lone_trail, split_items, split_tail}
use Rattle.utf16_units.proofs.EncodingLemmas.{Encodes-text_of}
use Rattle.utf16_units.proofs.FirstChar.{AreBytes, first_unit, one_unit_first, pair_first}
use Rattle.utf16_units.proofs.IllFormedLemmas.{IsUtf16ValidUpTo-unique, IsUtf16-step}
use Rattle.utf16_units.proofs.Computed.{IsIncomplete-from_is_incomplete, is_incomplete-from_IsIncomplete}
use Rattle.utf16_units.proofs.SplitLemmas.{Class, class_of, leading, trailing, neither, cut_items, cut_tail, put_unit-leading, put_unit-trailing, whole_items, whole_tail}
use Rattle.utf16_units.proofs.SplitJoin.{BeginsNoTrail, BeginsNoTrail-split_items, put_leading-no_trail, split_items-text, split_tail-text}

-- the item of an unpaired surrogate
abbrev pub lone_item : ℕ → Item
lone_item unit = if is_high_surrogate unit then lone_lead unit else lone_trail unit

-- truncated bytes have no item, and are the tail
incomplete : (big : Bool) (bytes : List ℕ) → IsIncomplete big bytes → (split_items big bytes ≡ []) × (split_tail big bytes ≡ bytes)
unfolding split_items split_tail
incomplete big [] cut = absurd cut
incomplete big (last ∷ []) cut = (refl, refl)
incomplete big (first ∷ second ∷ after) cut =
    let yes = is_incomplete-from_IsIncomplete big (first ∷ second ∷ after) cut in
    (cut_items big first second after yes, cut_tail big first second after yes)

-- the bytes do not start with a character
abbrev NoChar : Bool → List ℕ → Type 0
NoChar big bytes = (n : ℕ) → BeginsWithChar big bytes (suc n) → ⊥

-- bytes that do not start with a character, and are not truncated, start with an unpaired surrogate
record BeginsLone (big : Bool) (bytes : List ℕ) : Type 0 where
  class : IsLeading (first_unit big bytes) ⊎ IsTrailing (first_unit big bytes)
  items : split_items big bytes ≡ lone_item (first_unit big bytes) ∷ split_items big (drop 2 bytes)
  tail : split_tail big bytes ≡ split_tail big (drop 2 bytes)

lone_item-leading : (unit : ℕ) → IsLeading unit → lone_item unit ≡ lone_lead unit
lone_item-leading unit l =
    let below : unit < 0xDC00 = omega arith in
    rw (le-leb 0xD800 unit l.0, lt-ltb unit 0xDC00 below) refl

lone_item-trailing : (unit : ℕ) → IsTrailing unit → lone_item unit ≡ lone_trail unit
lone_item-trailing unit t =
    let from : 0xD800 ≤ unit = omega arith in
    rw (le-leb 0xD800 unit from, le-ltb unit 0xDC00 t.0) refl

-- a leading unit that does not start a character is not followed by a trailing unit
no_trail : (big : Bool) (first second : ℕ) (bytes : List ℕ) → AreBytes (first ∷ second ∷ bytes) → NoChar big (first ∷ second ∷ bytes)
    → IsLeading (unit_of big first second) → BeginsNoTrail (split_items big bytes)
unfolding split_items
no_trail big first second [] are none l = tt
no_trail big first second (last ∷ []) are none l = tt
no_trail big first second (third ∷ fourth ∷ bytes) are none l =
    BeginsNoTrail-split_items big third fourth bytes
    (λ t. none 3 (pair_first big (first ∷ second ∷ third ∷ fourth ∷ bytes) are (omega arith) l t))

module _ (big : Bool) (first second : ℕ) (bytes : List ℕ) (are : AreBytes (first ∷ second ∷ bytes)) (none : NoChar big (first ∷ second ∷ bytes))
    (whole : ¬ (IsIncomplete big (first ∷ second ∷ bytes))) where
  abbrev unit : ℕ
  unit = unit_of big first second

  not_cut_off : is_incomplete big (first ∷ second ∷ bytes) ≡ false
  not_cut_off = ⊎_elim
      (λ (yes : is_incomplete big (first ∷ second ∷ bytes) ≡ true). absurd (whole (IsIncomplete-from_is_incomplete big (first ∷ second ∷ bytes) yes)))
      (λ (no : is_incomplete big (first ∷ second ∷ bytes) ≡ false). no)
      (cases_Bool (is_incomplete big (first ∷ second ∷ bytes)))

  by_class : Class unit → BeginsLone big (first ∷ second ∷ bytes)
  by_class (leading l) = record {
    class = inl l;
    items =
        whole_items big first second bytes not_cut_off ∙ put_unit-leading unit (split_items big bytes) l
        ∙ put_leading-no_trail unit (split_items big bytes) (no_trail big first second bytes are none l)
        ∙ ap (λ i. i ∷ split_items big bytes) (sym (lone_item-leading unit l));
    tail = whole_tail big first second bytes not_cut_off;
  }
  by_class (trailing t) = record {
    class = inr t;
    items =
        whole_items big first second bytes not_cut_off ∙ put_unit-trailing unit (split_items big bytes) t
        ∙ ap (λ i. i ∷ split_items big bytes) (sym (lone_item-trailing unit t));
    tail = whole_tail big first second bytes not_cut_off;
  }
  by_class (neither l t) = absurd (none 1 (one_unit_first big (first ∷ second ∷ bytes) are (omega arith) l t))

  unit_lone : BeginsLone big (first ∷ second ∷ bytes)
  unit_lone = by_class (class_of unit)

begins_lone : (big : Bool) (bytes : List ℕ) → AreBytes bytes → 0 < length bytes → NoChar big bytes → ¬ (IsIncomplete big bytes) → BeginsLone big bytes
begins_lone big [] are some none whole = absurd (omega arith)
begins_lone big (last ∷ []) are some none whole = absurd (whole tt)
begins_lone big (first ∷ second ∷ bytes) are some none whole = unit_lone big first second bytes are none whole

pub AreBytes-drop : (n : ℕ) (bytes : List ℕ) → AreBytes bytes → AreBytes (drop n bytes)
AreBytes-drop n bytes are k = subst (λ b. b < 256) (sym (get_or-drop n bytes k 0)) (are (n + k))

pub AreBytes-take : (n : ℕ) (bytes : List ℕ) → AreBytes bytes → AreBytes (take n bytes)
AreBytes-take n bytes are k = ⊎_elim
    (λ (within : k < n). subst (λ b. b < 256) (sym (get_or-take n bytes k 0 within)) (are k))
    (λ (past : n ≤ k). subst (λ b. b < 256) (sym (get_or_past (take n bytes) k 0 (omega (arith, past, length-take n bytes)))) (omega arith))
    (cases_lt k n)

module _ (big : Bool) (bytes : List ℕ) (n : ℕ) (error_len : Option ℕ) (fault : IsIllFormed big bytes error_len) (front : IsUtf16ValidUpTo big bytes n) where
  same_front : fault.valid_up_to ≡ n
  same_front = IsUtf16ValidUpTo-unique big bytes fault.valid_up_to n fault.front front

  at_front : IsErrorLen big (drop n bytes) error_len
  at_front = subst (λ k. IsErrorLen big (drop k bytes) error_len) same_front fault.at_front

  -- the characters of the longest valid prefix come first, and then the split of the rest
  items_at : split_items big bytes ≡ map good (text_of big (take n bytes)) ++ split_items big (drop n bytes)
  items_at =
      ap (split_items big) (sym (take-append-drop n bytes))
      ∙ split_items-text big (text_of big (take n bytes)) (take n bytes) (drop n bytes) (Encodes-text_of big (take n bytes) front.valid)

  tail_at : split_tail big bytes ≡ split_tail big (drop n bytes)
  tail_at =
      ap (split_tail big) (sym (take-append-drop n bytes))
      ∙ split_tail-text big (text_of big (take n bytes)) (take n bytes) (drop n bytes) (Encodes-text_of big (take n bytes) front.valid)

  no_char : NoChar big (drop n bytes)
  no_char k begins =
      let step = IsUtf16-step big bytes n (suc k) front.within front.valid (subst (λ b. BeginsWithChar big b (suc k)) (sym (take_rest bytes n)) begins) in
      let le : n + suc k ≤ n = front.longest (n + suc k) step.0 step.1 in
      omega arith

  some_rest : 0 < length (drop n bytes)
  some_rest = ⊎_elim
      (λ (some : n < length bytes).
      let long = length-drop n bytes in
      omega arith)
      (λ (all : length bytes ≤ n). absurd (fault.ill_formed (subst (IsUtf16 big) (take_all n bytes all) front.valid)))
      (cases_lt n (length bytes))

module _ (big : Bool) (bytes : List ℕ) (n : ℕ) (fault : IsIllFormed big bytes None) (front : IsUtf16ValidUpTo big bytes n) where
  -- if a character was truncated, the items are the characters before it, and it is the tail
  pub split_items-incomplete : split_items big bytes ≡ map good (text_of big (take n bytes))
  split_items-incomplete =
      items_at big bytes n None fault front
      ∙ ap (λ i. map good (text_of big (take n bytes)) ++ i) (incomplete big (drop n bytes) (at_front big bytes n None fault front)).0
      ∙ append-nil (map good (text_of big (take n bytes)))

  pub split_tail-incomplete : split_tail big bytes ≡ drop n bytes
  split_tail-incomplete = tail_at big bytes n None fault front ∙ (incomplete big (drop n bytes) (at_front big bytes n None fault front)).1

module _ (big : Bool) (bytes : List ℕ) (n : ℕ) (are : AreBytes bytes) (fault : IsIllFormed big bytes (Some 2)) (front : IsUtf16ValidUpTo big bytes n) where
  lone_at : BeginsLone big (drop n bytes)
  lone_at =
      begins_lone big (drop n bytes) (AreBytes-drop n bytes are) (some_rest big bytes n (Some 2) fault front)
      (no_char big bytes n (Some 2) fault front) (at_front big bytes n (Some 2) fault front).1

  -- after it the split continues as if the bytes began there
  pub split_items-fault : split_items big bytes
      ≡ map good (text_of big (take n bytes)) ++ lone_item (first_unit big (drop n bytes)) ∷ split_items big (drop (n + 2) bytes)
  split_items-fault =
      items_at big bytes n (Some 2) fault front
      ∙ ap (λ i. map good (text_of big (take n bytes)) ++ i)
      (lone_at.items ∙ ap (λ b. lone_item (first_unit big (drop n bytes)) ∷ split_items big b) (drop-drop 2 n bytes))

  pub split_tail-fault : split_tail big bytes ≡ split_tail big (drop (n + 2) bytes)
  split_tail-fault = tail_at big bytes n (Some 2) fault front ∙ lone_at.tail ∙ ap (split_tail big) (drop-drop 2 n bytes)
