-- The bytes of one more character, written to a buffer.
use borrow.Rule.Slice.PartMut.{put_mid}
use Rattle.std.proofs.Common.{◌≡◌, ℕ, ◌+◌, ◌-◌, ◌≤◌, Bool, List, [], ◌∷◌, ◌++◌, length, take, drop, refl, sym, ap, ap₂, ◌∙◌, append_assoc, length-append, length-take-le, take_at}
use Rattle.std.proofs.lemmas.List.Edits.{paste_all}
use Rattle.std.proofs.lemmas.Slice.{put_mid-paste}
use Rattle.utf16_units.specs.Encoding.{char_bytes, char_size, encode, size}
use Rattle.utf16_units.proofs.CharLemmas.{length-char_bytes}
use Rattle.utf16_units.proofs.EncodingLemmas.{encode-append, encode-one}

-- the bytes of one more character, written after the bytes of the characters before it
module _ (big : Bool) (buf part rest given : List ℕ) (len c n : ℕ) (written : take len buf ≡ encode big given) (counted : len ≡ size given)
    (within : len ≤ length buf) (added : part ≡ char_bytes big c ++ rest) (size_c : n ≡ char_size c) (room : length part ≡ length buf - len) where
  tail : List ℕ
  tail = drop (len + (length buf - len)) buf

  front : take len buf ++ char_bytes big c ≡ encode big (given ++ c ∷ [])
  front = ap (λ bytes. bytes ++ char_bytes big c) written ∙ sym (encode-append big given (c ∷ []) ∙ ap (λ bytes. encode big given ++ bytes) (encode-one big c))

  pub written-more : take (len + n) (put_mid len (length buf - len) buf part) ≡ encode big (given ++ c ∷ [])
  unfolding tail
  written-more =
      ap (take (len + n))
      (put_mid-paste len (length buf - len) buf part part (length buf - len) refl refl (sym room)
      ∙ paste_all buf len part (length buf - len) (sym room)
      ∙ ap (λ bytes. take len buf ++ (bytes ++ tail)) added
      ∙ ap (λ bytes. take len buf ++ bytes) (append_assoc (char_bytes big c) rest tail)
      ∙ sym (append_assoc (take len buf) (char_bytes big c) (rest ++ tail)))
      ∙ take_at (take len buf ++ char_bytes big c) (rest ++ tail) (len + n)
      (length-append (take len buf) (char_bytes big c) ∙ ap₂ (λ a b. a + b) (length-take-le len buf within) (length-char_bytes big c ∙ sym size_c))
      ∙ front
