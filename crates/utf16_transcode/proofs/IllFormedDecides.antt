-- What is decoded at an unpaired surrogate.
use Rattle.std.proofs.Common.{◌≡◌, ℕ, ◌+◌, Bool, List, [], ◌∷◌, ◌++◌, Some, map, take, drop, encode_utf8_all, sym, ap, ap₂, ◌∙◌, subst, append_assoc}
use Rattle.std.proofs.lemmas.List.{drop-drop}
use Rattle.std.specs.Char.{encode_utf8}
use Rattle.utf16_units.specs.Encoding.{text_of}
use Rattle.utf16_units.specs.Utf16Error.{IsErrorOf, error_len, valid_up_to}
use Rattle.utf16_units.specs.declared.error.Utf16Error.{Utf16Error}
use Rattle.utf16_units.specs.IllFormed.{IsIllFormed, IsUtf16ValidUpTo}
use Rattle.utf16_units.specs.Split.{good, split_items}
use Rattle.utf16_units.proofs.FirstChar.{AreBytes, first_unit}
use Rattle.utf16_units.proofs.SplitIllFormed.{lone_item, split_items-fault, split_tail-fault}
use Rattle.utf16_units.proofs.RecipeLemmas.{lossy_char-lone_item, lossy_chars-good, two}
use Rattle.utf16_transcode.specs.Decodes.{Decodes}
use Rattle.utf16_transcode.proofs.DecodesLemmas.{shown, shown-append}

shown-lone : (unit : ℕ) → encode_utf8 0xFFFD ≡ shown (lone_item unit ∷ [])
unfolding encode_utf8
shown-lone unit = ap (λ c. encode_utf8_all (c ∷ [])) (sym (lossy_char-lone_item unit))

-- the longest valid prefix, and U+FFFD for the surrogate after it
Decodes-fault : (big : Bool) (bytes : List ℕ) (n : ℕ) (old mid new : List ℕ) → AreBytes bytes → IsIllFormed big bytes (Some 2) → IsUtf16ValidUpTo big bytes n
    → mid ≡ old ++ encode_utf8_all (text_of big (take n bytes)) → new ≡ mid ++ encode_utf8 0xFFFD → Decodes big bytes (drop (n + 2) bytes) old new
Decodes-fault big bytes n old mid new are fault front valid marked_behind =
    let unit = first_unit big (drop n bytes) in
    let text = text_of big (take n bytes) in
    record {
      taken = map good text ++ lone_item unit ∷ [];
      items =
          split_items-fault big bytes n are fault front
          ∙ sym (append_assoc (map good text) (lone_item unit ∷ []) (split_items big (drop (n + 2) bytes)));
      tail = split_tail-fault big bytes n are fault front;
      text =
          marked_behind ∙ ap (λ t. t ++ encode_utf8 0xFFFD) valid ∙ append_assoc old (encode_utf8_all text) (encode_utf8 0xFFFD)
          ∙ ap (λ t. old ++ t) (
          ap₂ (λ t u. encode_utf8_all t ++ u) (sym (lossy_chars-good text)) (shown-lone unit) ∙ sym (shown-append (map good text) (lone_item unit ∷ []))
          );
    }

-- at an unpaired surrogate, the longest valid prefix and U+FFFD are decoded, and the rest begins
-- after the surrogate
module _ (big : Bool) (bytes : List ℕ) (e : Utf16Error) (is : IsErrorOf big bytes e) (n : ℕ) (at : n ≡ valid_up_to e) (are : AreBytes bytes) (len : ℕ) (some : error_len e ≡ Some len) where
  pub fault_decides : (old mid new : List ℕ) → mid ≡ old ++ encode_utf8_all (text_of big (take n bytes)) → new ≡ mid ++ encode_utf8 0xFFFD
      → Decodes big bytes (drop len (drop n bytes)) old new
  fault_decides old mid new valid replacement =
      let fault = subst (IsIllFormed big bytes) some is.fault in
      subst (λ r. Decodes big bytes r old new)
      (sym (drop-drop len n bytes ∙ ap (λ t. drop (n + t) bytes) fault.at_front.0))
      (Decodes-fault big bytes n old mid new are (two fault) (subst (IsUtf16ValidUpTo big bytes) (sym at) is.front) valid replacement)
