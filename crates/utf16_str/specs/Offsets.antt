-- Characters with their offsets, in bytes.
use Rattle.std.specs.Prelude.{◌≡◌, ℕ, ◌+◌, All, List, [], ◌∷◌, ◌++◌}
use Rattle.utf16_units.specs.Boundary.{IsBoundary, text_from, text_to}
use Rattle.utf16_units.specs.Encoding.{char_size, size}

-- each character with the size of all characters before it, if the first is at `offset`
unfoldable pub char_offsets : ℕ → List ℕ → List (ℕ × ℕ)
char_offsets offset [] = []
char_offsets offset (c ∷ text) = (offset, c) ∷ char_offsets (offset + char_size c) text

-- the offset after a text that begins at an offset
abbrev pub offset_after : ℕ → List ℕ → ℕ
offset_after offset text = offset + size text

-- the character is at the offset: the offset and the end of the character are boundaries, and the
-- text is the prefix before it, the character, and the rest after it
pub record IsCharAt (text : List ℕ) (at : ℕ × ℕ) : Type 0 where
  pub start : IsBoundary text at.0
  pub end : IsBoundary text (at.0 + char_size at.1)
  pub here : text_from text at.0 ≡ at.1 ∷ text_from text (at.0 + char_size at.1)
  pub behind : text_to text (at.0 + char_size at.1) ≡ text_to text at.0 ++ at.1 ∷ []
  pub split : text_to text at.0 ++ at.1 ∷ text_from text (at.0 + char_size at.1) ≡ text

-- each character of a text is at its offset
abbrev pub OffsetsHold : Type 0
OffsetsHold = (text : List ℕ) → All (IsCharAt text) (char_offsets 0 text)
