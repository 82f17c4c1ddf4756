-- How many ill-formed sequences UTF-16 has: at an error, for a text, and for bytes with none.
use Rattle.std.proofs.Common.{◌≡◌, ◌↔◌, ℕ, suc, ◌+◌, ◌<◌, Bool, List, [], ◌∷◌, None, Some, length, map, take, drop, refl, sym, ap, ap₂, ◌∙◌, arith, append-nil, drop-drop, length-drop}
use Rattle.utf16_units.specs.Encoding.{IsUtf16, text_of}
use Rattle.utf16_units.specs.IllFormed.{IsIllFormed, IsUtf16ValidUpTo}
use Rattle.utf16_units.specs.Recipe.{Recipe, incomplete, resumed, valid}
use Rattle.utf16_units.specs.Split.{good, split_items}
use Rattle.utf16_units.proofs.EncodingLemmas.{Encodes-text_of, IsUtf16-from_Encodes}
use Rattle.utf16_units.proofs.FirstChar.{AreBytes, first_unit}
use Rattle.utf16_units.proofs.RecipeLemmas.{split_text, two, utf16_recipe}
use Rattle.utf16_units.proofs.SplitIllFormed.{lone_item, split_items-fault, split_items-incomplete, split_tail-fault, split_tail-incomplete}
use Rattle.utf16_transcode.specs.Replaced.{cut_off, ill_formed_count}
use Rattle.utf16_transcode.specs.Unpaired.{lone_items}
use Rattle.utf16_transcode.proofs.DecodeLossyLemmas.{some_left}
use Rattle.utf16_transcode.proofs.MendLemmas.{lone_items-good, lone_items-lone}

-- a tail counts as one
pub cut_off-some : (tail : List ℕ) → 0 < length tail → cut_off tail ≡ 1
cut_off-some [] some = absurd (omega (arith, some))
cut_off-some (first ∷ after) some = refl

-- a text has none
text_none : (text : List ℕ) → lone_items (map good text) ≡ 0
unfolding lone_items
text_none text = ap lone_items (sym (append-nil (map good text))) ∙ lone_items-good text []

module _ (big : Bool) (bytes : List ℕ) where
  pub count_text : IsUtf16 big bytes → ill_formed_count big bytes ≡ 0
  count_text is =
      let text = text_of big bytes in
      let split = split_text big text bytes (Encodes-text_of big bytes is) in
      ap₂ (λ i t. lone_items i + cut_off t) split.0 split.1 ∙ omega (arith, text_none text)

  -- an unpaired surrogate counts as one, and the others are in the bytes after it
  pub count_fault : (n len : ℕ) → AreBytes bytes → IsUtf16ValidUpTo big bytes n → IsIllFormed big bytes (Some len)
      → ill_formed_count big bytes ≡ suc (ill_formed_count big (drop len (drop n bytes)))
  count_fault n len are at wrong =
      let after = split_items big (drop (n + 2) bytes) in
      let lone = lone_item (first_unit big (drop n bytes)) in
      let rest = ap (ill_formed_count big) (drop-drop len n bytes ∙ ap (λ k. drop (n + k) bytes) wrong.at_front.0) in
      let split = ap₂ (λ i t. lone_items i + cut_off t) (split_items-fault big bytes n are (two wrong) at) (split_tail-fault big bytes n are (two wrong) at) in
      omega (arith, rest, split, lone_items-good (text_of big (take n bytes)) (lone ∷ after), lone_items-lone (first_unit big (drop n bytes)) after)

  -- a truncated character is the only one that is left
  pub count_cut_off : (n : ℕ) → IsUtf16ValidUpTo big bytes n → IsIllFormed big bytes None → ill_formed_count big bytes ≡ 1
  count_cut_off n at wrong =
      let some = cut_off-some (drop n bytes) (omega (arith, some_left big bytes n None (at, wrong), length-drop n bytes)) in
      ap₂ (λ i t. lone_items i + cut_off t) (split_items-incomplete big bytes n wrong at) (split_tail-incomplete big bytes n wrong at)
      ∙ omega (arith, text_none (text_of big (take n bytes)), some)

none_by : {big : Bool} {bytes text kept : List ℕ} → AreBytes bytes → Recipe big bytes text kept → ill_formed_count big bytes ≡ 0 → IsUtf16 big bytes
none_by {big} are (valid bytes text e) none = IsUtf16-from_Encodes big text bytes e
none_by {big} are (resumed bytes front text kept n len at e rest) none = absurd (omega (arith, count_fault big bytes n len are at.0 at.1, none))
none_by {big} are (incomplete bytes front n at e) none = absurd (omega (arith, count_cut_off big bytes n at.0 at.1, none))

-- there is none exactly if the bytes are a text
pub count_none : (big : Bool) (bytes : List ℕ) → AreBytes bytes → (ill_formed_count big bytes ≡ 0) ↔ IsUtf16 big bytes
count_none big bytes are = (none_by are (utf16_recipe big bytes are), count_text big bytes)
