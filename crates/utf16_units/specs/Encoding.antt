-- The encoding of a text in UTF-16, in either byte order. A text is a list of scalar values.
use Rattle.std.specs.Prelude.{◌≡◌, ℕ, ◌*◌, Bool, ◌&&◌, List, [], ◌∷◌, length, All, encode_utf8_all}
use Rattle.std.specs.Char.{IsScalar}
use Rattle.std.specs.Char.Escape.{encode_utf16}
use Rattle.std.specs.Char.Utf16.{utf16_lossy_chars}
use Rattle.std.specs.List.{flat_map}
use Rattle.std.specs.Str.{all_scalars, bytes_eq}
use Rattle.utf16_units.specs.Unit.{unit_bytes, unit_of}

-- the bytes of a character: the bytes of its one or two units (Unicode, section 3.9: UTF-16
-- encoding form)
abbrev pub char_bytes : Bool → ℕ → List ℕ
char_bytes big c = flat_map (unit_bytes big) (encode_utf16 c)

-- the bytes of a text: its characters' bytes, one after another (Unicode, section 3.10: UTF-16BE
-- and UTF-16LE)
unfoldable pub encode : Bool → List ℕ → List ℕ
encode big text = flat_map (char_bytes big) text

-- the number of bytes of a character: two for each unit
abbrev pub char_size : ℕ → ℕ
char_size c = 2 * length (encode_utf16 c)

-- the number of bytes of a text, in either byte order: two for each unit
unfoldable pub size : List ℕ → ℕ
size text = 2 * length (flat_map encode_utf16 text)

-- the bytes are the encoding of the text, whose characters are scalar values (Unicode, section 3.9:
-- scalar value)
pub record Encodes (big : Bool) (text bytes : List ℕ) : Type 0 where
  pub scalars : All IsScalar text
  pub spelled : encode big text ≡ bytes

-- the bytes are well formed: they encode some text (Unicode, section 3.9: well-formed UTF-16)
pub record IsUtf16 (big : Bool) (bytes : List ℕ) : Type 0 where
  pub text : List ℕ
  pub encodes : Encodes big text bytes

-- the units of bytes, two bytes each; a last odd byte is in none
unfoldable pub units_of : Bool → List ℕ → List ℕ
units_of big [] = []
units_of big (last ∷ []) = []
units_of big (first ∷ second ∷ bytes) = unit_of big first second ∷ units_of big bytes

-- the text that bytes encode, computed; if they are ill-formed, an unpaired surrogate gives U+FFFD
unfoldable pub text_of : Bool → List ℕ → List ℕ
text_of big bytes = utf16_lossy_chars (units_of big bytes)

-- that text in UTF-8
abbrev pub utf8_of : Bool → List ℕ → List ℕ
utf8_of big bytes = encode_utf8_all (text_of big bytes)

-- whether bytes are well formed, computed: they are the encoding of the text computed from them
unfoldable pub is_utf16 : Bool → List ℕ → Bool
is_utf16 big bytes = all_scalars (text_of big bytes) && bytes_eq (encode big (text_of big bytes)) bytes
