-- Steps of decoding in sequence, and the step that the fields of an error give.
use Rattle.std.proofs.Common.{◌≡◌, ◌⊎◌, inl, inr, take_all, ℕ, ◌+◌, ◌-◌, ◌<◌, ◌≤◌, Bool, true, false, List, [], ◌∷◌, ◌++◌, None, length, take, drop, encode_utf8_all, refl, sym, ap, ap₂, ◌∙◌, subst, ⊎_elim, arith, append-nil, take-append-drop, length-append}
use Rattle.std.proofs.lemmas.Bool.{cases_Bool, cases_lt}
use Rattle.std.proofs.lemmas.List.{drop-append-le, map-append}
use Rattle.std.proofs.Math.Seq.{drop-append-add, drop-append_seam}
use Rattle.std.proofs.lemmas.List.Concat.{flat_map-append}
use Rattle.std.specs.Char.{encode_utf8}
use Rattle.utf16_units.specs.Encoding.{Encodes, text_of}
use Rattle.utf16_units.specs.Unit.{unit_of}
use Rattle.utf16_units.specs.Utf16Error.{IsErrorOf, error_len, valid_up_to}
use Rattle.utf16_units.specs.declared.error.Utf16Error.{Utf16Error}
use Rattle.utf16_units.specs.IllFormed.{IsIllFormed, IsUtf16ValidUpTo, is_incomplete}
use Rattle.utf16_units.specs.Split.{Item, lossy_char, lossy_chars, split_items, split_tail}
use Rattle.utf16_units.proofs.Computed.{IsIncomplete-from_is_incomplete}
use Rattle.utf16_units.proofs.SplitLemmas.{cut_items, cut_tail, whole_items, whole_tail}
use Rattle.utf16_units.proofs.SplitJoin.{some_put_unit, split_items-append, split_tail-append}
use Rattle.utf16_units.proofs.SplitUnique.{length-split_tail}
use Rattle.utf16_units.proofs.SplitIllFormed.{split_items-incomplete, split_tail-incomplete}
use Rattle.utf16_units.proofs.RecipeLemmas.{lossy_chars-good, split_text}
use Rattle.utf16_transcode.specs.Decodes.{Decodes}

-- the UTF-8 of the text of items
abbrev pub shown : List Item → List ℕ
shown items = encode_utf8_all (lossy_chars items)

pub shown-append : (items more : List Item) → shown (items ++ more) ≡ shown items ++ shown more
shown-append items more = ap encode_utf8_all (map-append lossy_char items more) ∙ flat_map-append encode_utf8 (lossy_chars items) (lossy_chars more)

-- the step that decodes a chunk, with more bytes after it
pub Decodes-piece : (big : Bool) (piece behind old new : List ℕ) → new ≡ old ++ shown (split_items big piece)
    → Decodes big (piece ++ behind) (split_tail big piece ++ behind) old new
Decodes-piece big piece behind old new text = record {
  taken = split_items big piece;
  items = split_items-append big piece behind;
  tail = split_tail-append big piece behind;
  text = text;
}

-- a text is the whole decoded text of its bytes
pub text_shown : (big : Bool) (text bytes old new : List ℕ) → Encodes big text bytes → new ≡ old ++ encode_utf8_all text → new ≡ old ++ shown (split_items big bytes)
text_shown big text bytes old new e behind =
    behind ∙ ap (λ t. old ++ encode_utf8_all t) (sym (lossy_chars-good text)) ∙ ap (λ i. old ++ shown i) (sym (split_text big text bytes e).0)

-- ---- the error's fields

module _ (big : Bool) (bytes : List ℕ) (e : Utf16Error) (is : IsErrorOf big bytes e) (n : ℕ) (at : n ≡ valid_up_to e) where
  front : IsUtf16ValidUpTo big bytes n
  front = subst (IsUtf16ValidUpTo big bytes) (sym at) is.front

  module _ (none : error_len e ≡ None) where
    fault : IsIllFormed big bytes None
    fault = subst (IsIllFormed big bytes) none is.fault

    -- a character was truncated: the longest valid prefix is all that is decoded, and what follows
    -- it is the tail
    pub cut_off_decides : (old new : List ℕ) → new ≡ old ++ encode_utf8_all (text_of big (take n bytes)) → new ≡ old ++ shown (split_items big bytes)
    cut_off_decides old new valid =
        valid ∙ ap (λ t. old ++ encode_utf8_all t) (sym (lossy_chars-good (text_of big (take n bytes))))
        ∙ ap (λ i. old ++ shown i) (sym (split_items-incomplete big bytes n fault front))

    pub cut_off_leaves : drop n bytes ≡ split_tail big bytes
    cut_off_leaves = sym (split_tail-incomplete big bytes n fault front)

-- ---- the tail

-- the tail of a tail is the tail itself
pub split_tail-again : (big : Bool) (bytes : List ℕ) → split_tail big (split_tail big bytes) ≡ split_tail big bytes
split_tail-again big bytes =
    ap (split_tail big) (sym (append-nil (split_tail big bytes))) ∙ sym (split_tail-append big bytes []) ∙ ap (split_tail big) (append-nil bytes)

-- the tail is a suffix
pub before_tail : (big : Bool) (bytes : List ℕ) → (front : List ℕ) × (front ++ split_tail big bytes ≡ bytes)
unfolding split_tail
before_tail big [] = ([], refl)
before_tail big (last ∷ []) = ([], refl)
before_tail big (first ∷ second ∷ bytes) = ⊎_elim
    (λ (cut : is_incomplete big (first ∷ second ∷ bytes) ≡ true). ([], cut_tail big first second bytes cut))
    (λ (whole : is_incomplete big (first ∷ second ∷ bytes) ≡ false).
    let behind = before_tail big bytes in
    (first ∷ second ∷ behind.0, ap (λ t. first ∷ second ∷ (behind.0 ++ t)) (whole_tail big first second bytes whole) ∙ ap (λ t. first ∷ second ∷ t) behind.1))
    (cases_Bool (is_incomplete big (first ∷ second ∷ bytes)))

-- a tail that is no longer than the bytes after some prefix is a suffix of these bytes
tail_within : (big : Bool) (bytes more : List ℕ) → length (split_tail big (bytes ++ more)) ≤ length more
    → split_tail big (bytes ++ more) ≡ drop (length more - length (split_tail big (bytes ++ more))) more
tail_within big bytes more short =
    let tail = split_tail big (bytes ++ more) in
    let before = before_tail big (bytes ++ more) in
    let both = sym (length-append before.0 tail) ∙ ap length before.1 ∙ length-append bytes more in
    let at : length before.0 ≡ length bytes + (length more - length tail) = omega arith in
    sym (drop-append_seam before.0 tail) ∙ ap₂ drop at before.1 ∙ drop-append-add bytes more (length more - length tail)

-- the tail is no longer than the bytes
pub length-split_tail-le : (big : Bool) (bytes : List ℕ) → length (split_tail big bytes) ≤ length bytes
length-split_tail-le big bytes =
    let before = before_tail big bytes in
    let both = sym (length-append before.0 (split_tail big bytes)) ∙ ap length before.1 in
    omega arith

-- bytes that are all tail have no item
pub undecided_items : (big : Bool) (bytes : List ℕ) → split_tail big bytes ≡ bytes → split_items big bytes ≡ []
unfolding split_items
undecided_items big [] same = refl
undecided_items big (last ∷ []) same = refl
undecided_items big (first ∷ second ∷ bytes) same = ⊎_elim
    (λ (cut : is_incomplete big (first ∷ second ∷ bytes) ≡ true). cut_items big first second bytes cut)
    (λ (whole : is_incomplete big (first ∷ second ∷ bytes) ≡ false).
    let long = ap length (sym (whole_tail big first second bytes whole) ∙ same) in
    let short = length-split_tail-le big bytes in
    absurd (omega arith))
    (cases_Bool (is_incomplete big (first ∷ second ∷ bytes)))

-- so the tail is what is left after the bytes before it
pub tail_at_end : (big : Bool) (bytes : List ℕ) → split_tail big bytes ≡ drop (length bytes - length (split_tail big bytes)) bytes
tail_at_end big bytes = tail_within big [] bytes (length-split_tail-le big bytes)

-- four bytes or more have an item
pub four_decide : (big : Bool) (bytes : List ℕ) → 4 ≤ length bytes → ¬ (split_items big bytes ≡ [])
four_decide big [] long none = absurd (omega arith)
four_decide big (first ∷ []) long none = absurd (omega arith)
four_decide big (first ∷ second ∷ bytes) long none = ⊎_elim
    (λ (cut : is_incomplete big (first ∷ second ∷ bytes) ≡ true).
    let short = IsIncomplete-from_is_incomplete big (first ∷ second ∷ bytes) cut in
    absurd (omega (arith, short.1)))
    (λ (whole : is_incomplete big (first ∷ second ∷ bytes) ≡ false).
    absurd (some_put_unit (unit_of big first second) (split_items big bytes) (sym (whole_items big first second bytes whole) ∙ none)))
    (cases_Bool (is_incomplete big (first ∷ second ∷ bytes)))

-- ---- a prefix

-- the first m bytes, of which n are decoded
module _ (big : Bool) (bytes front : List ℕ) (m n : ℕ) (is : front ≡ take m bytes) (ends : n + length (split_tail big front) ≡ length front) where
  both : front ++ drop m bytes ≡ bytes
  both = ap (λ f. f ++ drop m bytes) is ∙ take-append-drop m bytes

  left : split_tail big front ++ drop m bytes ≡ drop n bytes
  left =
      let at : length front - length (split_tail big front) ≡ n = omega (arith, ends) in
      ap (λ t. t ++ drop m bytes) (tail_at_end big front ∙ ap (λ k. drop k front) at)
      ∙ sym (drop-append-le n front (drop m bytes) (omega (arith, ends))) ∙ ap (drop n) both

  -- their text was appended
  pub Decodes-decided : (old new : List ℕ) → new ≡ old ++ shown (split_items big front) → Decodes big bytes (drop n bytes) old new
  Decodes-decided old new text =
      subst (λ r. Decodes big bytes r old new) left (subst (λ b. Decodes big b (split_tail big front ++ drop m bytes) old new) both (Decodes-piece big front (drop m bytes) old new text))

  -- if the bytes have an item, decoding a prefix of four bytes or more, or all of them, takes some
  -- bytes
  pub some_decided : (4 ≤ length front) ⊎ (length bytes ≤ m) → ¬ (split_items big bytes ≡ []) → 0 < n
  some_decided (inl long) some = omega (arith, ends, long, length-split_tail big front)
  some_decided (inr short) some = ⊎_elim
      (λ (none : n < 1).
      let whole : front ≡ bytes = is ∙ take_all m bytes short in
      let zero : length front - length (split_tail big front) ≡ 0 = omega (arith, ends, none) in
      let tail : split_tail big front ≡ front = tail_at_end big front ∙ ap (λ k. drop k front) zero in
      absurd (some (ap (split_items big) (sym whole) ∙ undecided_items big front tail)))
      (λ (more : 1 ≤ n). omega (arith, more))
      (cases_lt n 1)
