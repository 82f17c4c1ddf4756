-- The lossy text of bytes, item by item.
use Rattle.std.proofs.Common.{◌≡◌, ℕ, ◌<◌, Bool, List, [], ◌∷◌, ◌++◌, None, Some, length, map, take, drop, slice_index, refl, sym, ap, ap₂, ◌∙◌, subst, arith, append_assoc, length-take-le, take-append-drop}
use Rattle.std.proofs.lemmas.List.{drop_all, map-append, take_rest}
use Rattle.utf16_units.specs.Encoding.{IsUtf16, char_size, text_of}
use Rattle.utf16_units.specs.IllFormed.{BeginsWithChar, IsIllFormedAt}
use Rattle.utf16_units.specs.Split.{Item, good, lossy_char, lossy_chars, lossy_text, split_items, split_tail, whole_lossy_chars}
use Rattle.utf16_units.proofs.CharLemmas.{length-char_bytes}
use Rattle.utf16_units.proofs.EncodingLemmas.{Encodes-text_of, IsUtf16-char, IsUtf16-nil, char_text, text_of-nil}
use Rattle.utf16_units.proofs.FirstChar.{AreBytes, first_unit}
use Rattle.utf16_units.proofs.IllFormedLemmas.{faults}
use Rattle.utf16_units.proofs.RecipeLemmas.{lossy_char-lone_item, two}
use Rattle.utf16_units.proofs.SplitIllFormed.{lone_item, split_items-fault, split_items-incomplete, split_tail-fault, split_tail-incomplete}
use Rattle.utf16_units.proofs.SplitJoin.{split_items-text, split_tail-text}

-- the text of items before others
pub whole_lossy_chars-append : (items more : List Item) (tail : List ℕ) → whole_lossy_chars (items ++ more) tail ≡ lossy_chars items ++ whole_lossy_chars more tail
whole_lossy_chars-append items more [] = map-append lossy_char items more
whole_lossy_chars-append items more (first ∷ after) =
    ap (λ t. t ++ 0xFFFD ∷ []) (map-append lossy_char items more) ∙ append_assoc (lossy_chars items) (lossy_chars more) (0xFFFD ∷ [])

-- its character is U+FFFD
pub whole_lossy_chars-lone : (unit : ℕ) (items : List Item) (tail : List ℕ) → whole_lossy_chars (lone_item unit ∷ items) tail ≡ 0xFFFD ∷ whole_lossy_chars items tail
whole_lossy_chars-lone unit items [] = ap (λ c. c ∷ lossy_chars items) (lossy_char-lone_item unit)
whole_lossy_chars-lone unit items (first ∷ after) = ap (λ c. c ∷ (lossy_chars items ++ 0xFFFD ∷ [])) (lossy_char-lone_item unit)

-- no bytes have no text
pub nil_text : (big : Bool) → lossy_text big [] ≡ []
unfolding split_items split_tail
nil_text big = refl

-- ---- the first item
module _ (big : Bool) (rest : List ℕ) where
  -- the bytes of one character are well formed
  pub begins_well_formed : (len : ℕ) → BeginsWithChar big rest len → IsUtf16 big (take len rest)
  begins_well_formed len first = subst (IsUtf16 big) (sym first.spelled) (IsUtf16-char big first.char first.scalar)

  -- a character
  pub lossy-char : (len c n : ℕ) → BeginsWithChar big rest len → n ≡ char_size c
      → text_of big (take len rest) ≡ c ∷ text_of big (drop n (take len rest)) → lossy_text big rest ≡ c ∷ lossy_text big (drop n rest)
  lossy-char len c n first size joined =
      let spelled = ap (text_of big) first.spelled ∙ char_text big first.char first.scalar in
      let same : first.char ≡ c = ap (λ cs. slice_index cs 0) (sym spelled ∙ joined) in
      let all : n ≡ len = omega (arith, size, ap char_size same, length-char_bytes big first.char, ap length first.spelled, length-take-le len rest first.within) in
      let text = Encodes-text_of big (take len rest) (begins_well_formed len first) in
      let whole = take-append-drop len rest in
      let one = spelled ∙ ap (λ d. d ∷ []) same in
      ap₂ whole_lossy_chars
      (ap (split_items big) (sym whole) ∙ split_items-text big (text_of big (take len rest)) (take len rest) (drop len rest) text ∙ ap (λ t. map good t ++ split_items big (drop len rest)) one)
      (ap (split_tail big) (sym whole) ∙ split_tail-text big (text_of big (take len rest)) (take len rest) (drop len rest) text)
      ∙ whole_lossy_chars-append (good c ∷ []) (split_items big (drop len rest)) (split_tail big (drop len rest))
      ∙ ap (λ k. c ∷ lossy_text big (drop k rest)) (sym all)

  module _ (some : 0 < length rest) where
    -- an unpaired surrogate
    pub lossy-lone : (len : ℕ) → AreBytes rest → IsIllFormedAt big rest (Some len) → lossy_text big rest ≡ 0xFFFD ∷ lossy_text big (drop len rest)
    lossy-lone len are here =
        let fault = faults big rest 0 (Some len) some (IsUtf16-nil big) (subst (λ b. IsIllFormedAt big b (Some len)) (sym (take_rest rest 0)) here) in
        let none = ap (map good) (text_of-nil big) in
        let lone = lone_item (first_unit big (drop 0 rest)) in
        ap₂ whole_lossy_chars
        (split_items-fault big rest 0 are (two fault.1) fault.0 ∙ ap (λ t. t ++ lone ∷ split_items big (drop 2 rest)) none)
        (split_tail-fault big rest 0 are (two fault.1) fault.0)
        ∙ whole_lossy_chars-lone (first_unit big (drop 0 rest)) (split_items big (drop 2 rest)) (split_tail big (drop 2 rest))
        ∙ ap (λ k. 0xFFFD ∷ lossy_text big (drop k rest)) (sym here.1.0)

    -- an incomplete character at the end
    pub lossy-incomplete : IsIllFormedAt big rest None → lossy_text big rest ≡ 0xFFFD ∷ lossy_text big (drop (length rest) rest)
    lossy-incomplete here =
        let fault = faults big rest 0 None some (IsUtf16-nil big) (subst (λ b. IsIllFormedAt big b None) (sym (take_rest rest 0)) here) in
        ap₂ whole_lossy_chars (split_items-incomplete big rest 0 fault.1 fault.0 ∙ ap (map good) (text_of-nil big)) (split_tail-incomplete big rest 0 fault.1 fault.0)
        ∙ replaced rest some
        ∙ ap (λ t. 0xFFFD ∷ t) (sym (ap (lossy_text big) (drop_all (length rest) rest (omega arith)) ∙ nil_text big)) where
          replaced : (tail : List ℕ) → 0 < length tail → whole_lossy_chars [] tail ≡ 0xFFFD ∷ []
          replaced [] some = absurd (omega (arith, some))
          replaced (first ∷ after) some = refl
