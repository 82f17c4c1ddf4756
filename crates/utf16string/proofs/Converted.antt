-- The UTF-16 of a text that was converted from UTF-8.
use Rattle.std.proofs.Common.{◌≡◌, ◌∷◌, ◌++◌, ◌∙◌, ℕ, Bool, List, [], ap, subst, sym}
use Rattle.std.proofs.lemmas.Str.{scalars-chars}
use Rattle.std.specs.Str.{IsUtf8, chars}
use Rattle.utf16_units.specs.Encoding.{IsUtf16, char_bytes, encode, text_of}
use Rattle.utf16_units.proofs.EncodingLemmas.{All-from_all_scalars, IsUtf16-encode, encode-append, encode-one, text_of-encode}

module _ (big : Bool) (s bytes : List ℕ) (utf8 : IsUtf8 s) (same : bytes ≡ encode big (chars s)) where
  pub converted-IsUtf16 : IsUtf16 big bytes
  converted-IsUtf16 = subst (IsUtf16 big) (sym same) (IsUtf16-encode _ _ (All-from_all_scalars _ (scalars-chars s utf8)))

  pub converted-text : text_of big bytes ≡ chars s
  converted-text = ap (text_of big) same ∙ text_of-encode _ _ (All-from_all_scalars _ (scalars-chars s utf8))

-- and with the bytes of one more character
pub encode-push : (big : Bool) (bytes given : List ℕ) (c : ℕ) → bytes ≡ encode big given → bytes ++ char_bytes big c ≡ encode big (given ++ c ∷ [])
encode-push big bytes given c same =
    ap (λ front. front ++ char_bytes big c) same
    ∙ ap (λ back. encode big given ++ back) (sym (encode-one big c))
    ∙ sym (encode-append big given (c ∷ []))
