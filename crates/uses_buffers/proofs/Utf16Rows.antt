-- The definitions computed at known characters and known ill-formed bytes: evaluation checks each
-- row.
use Rattle.std.specs.Prelude.{◌≡◌, ◌==◌, ℕ, Bool, true, false, not, ◌&&◌, List, [], ◌∷◌, Option, None, Some, refl, length, encode_utf8_all, bytes_eq}
use Rattle.std.specs.List.{list_all}
use Rattle.std.specs.Char.{encode_utf8}
use Rattle.std.specs.Char.Utf16.{utf16_chars}
use Rattle.utf16_units.specs.Encoding.{encode, is_utf16, size, text_of, units_of}
use Rattle.utf16_units.specs.IllFormed.{ill_formed_len, valid_len, valid_len_within, is_incomplete}

record Character : Type 0 where
  char : ℕ
  little : List ℕ
  big : List ℕ
  utf8 : List ℕ

-- the character has these bytes in each byte order and in UTF-8, and they decode to it
abbrev is_encoded : Character → Bool
is_encoded row =
    bytes_eq (encode false (row.char ∷ [])) row.little && bytes_eq (encode true (row.char ∷ [])) row.big
    && bytes_eq (encode_utf8_all (row.char ∷ [])) row.utf8 && (size (row.char ∷ []) == length row.little)
    && is_utf16 false row.little && is_utf16 true row.big
    && bytes_eq (text_of false row.little) (row.char ∷ []) && bytes_eq (text_of true row.big) (row.char ∷ [])

abbrev character : ℕ → List ℕ → List ℕ → List ℕ → Character
character c little big utf8 = record { char = c; little = little; big = big; utf8 = utf8 }

abbrev characters : List Character
characters =
    character 0x0061 (0x61 ∷ 0x00 ∷ []) (0x00 ∷ 0x61 ∷ []) (0x61 ∷ [])
    ∷ character 0x007F (0x7F ∷ 0x00 ∷ []) (0x00 ∷ 0x7F ∷ []) (0x7F ∷ [])
    ∷ character 0x0080 (0x80 ∷ 0x00 ∷ []) (0x00 ∷ 0x80 ∷ []) (0xC2 ∷ 0x80 ∷ [])
    ∷ character 0x07FF (0xFF ∷ 0x07 ∷ []) (0x07 ∷ 0xFF ∷ []) (0xDF ∷ 0xBF ∷ [])
    ∷ character 0x0800 (0x00 ∷ 0x08 ∷ []) (0x08 ∷ 0x00 ∷ []) (0xE0 ∷ 0xA0 ∷ 0x80 ∷ [])
    ∷ character 0x4E00 (0x00 ∷ 0x4E ∷ []) (0x4E ∷ 0x00 ∷ []) (0xE4 ∷ 0xB8 ∷ 0x80 ∷ [])
    ∷ character 0xD7FF (0xFF ∷ 0xD7 ∷ []) (0xD7 ∷ 0xFF ∷ []) (0xED ∷ 0x9F ∷ 0xBF ∷ [])
    ∷ character 0xE000 (0x00 ∷ 0xE0 ∷ []) (0xE0 ∷ 0x00 ∷ []) (0xEE ∷ 0x80 ∷ 0x80 ∷ [])
    ∷ character 0xF841 (0x41 ∷ 0xF8 ∷ []) (0xF8 ∷ 0x41 ∷ []) (0xEF ∷ 0xA1 ∷ 0x81 ∷ [])
    ∷ character 0xFEFF (0xFF ∷ 0xFE ∷ []) (0xFE ∷ 0xFF ∷ []) (0xEF ∷ 0xBB ∷ 0xBF ∷ [])
    ∷ character 0xFFFD (0xFD ∷ 0xFF ∷ []) (0xFF ∷ 0xFD ∷ []) (0xEF ∷ 0xBF ∷ 0xBD ∷ [])
    ∷ character 0xFFFF (0xFF ∷ 0xFF ∷ []) (0xFF ∷ 0xFF ∷ []) (0xEF ∷ 0xBF ∷ 0xBF ∷ [])
    ∷ character 0x10000 (0x00 ∷ 0xD8 ∷ 0x00 ∷ 0xDC ∷ []) (0xD8 ∷ 0x00 ∷ 0xDC ∷ 0x00 ∷ []) (0xF0 ∷ 0x90 ∷ 0x80 ∷ 0x80 ∷ [])
    ∷ character 0x1F600 (0x3D ∷ 0xD8 ∷ 0x00 ∷ 0xDE ∷ []) (0xD8 ∷ 0x3D ∷ 0xDE ∷ 0x00 ∷ []) (0xF0 ∷ 0x9F ∷ 0x98 ∷ 0x80 ∷ [])
    ∷ character 0x10FFFF (0xFF ∷ 0xDB ∷ 0xFF ∷ 0xDF ∷ []) (0xDB ∷ 0xFF ∷ 0xDF ∷ 0xFF ∷ []) (0xF4 ∷ 0x8F ∷ 0xBF ∷ 0xBF ∷ [])
    ∷ []

characters_encoded : list_all is_encoded characters ≡ true
unfolding encode encode_utf8 is_utf16 size text_of units_of utf16_chars
characters_encoded = refl

record Faulty : Type 0 where
  order : Bool
  bytes : List ℕ
  valid_up_to : ℕ
  error_len : Option ℕ

abbrev same_error_len : Option ℕ → Option ℕ → Bool
same_error_len None None = true
same_error_len None (Some m) = false
same_error_len (Some n) None = false
same_error_len (Some n) (Some m) = n == m

-- the bytes are ill-formed, and have this longest valid prefix and this error length
abbrev is_refused : Faulty → Bool
is_refused row = not (is_utf16 row.order row.bytes) && (valid_len row.order row.bytes == row.valid_up_to) && same_error_len (ill_formed_len row.order row.bytes) row.error_len

abbrev faulty : Bool → List ℕ → ℕ → Option ℕ → Faulty
faulty order bytes valid_up_to error_len = record { order = order; bytes = bytes; valid_up_to = valid_up_to; error_len = error_len }

abbrev faults : List Faulty
faults =
    faulty false (0x00 ∷ 0xDC ∷ []) 0 (Some 2)
    ∷ faulty false (0x00 ∷ 0xD8 ∷ []) 0 None
    ∷ faulty false (0x00 ∷ 0xD8 ∷ 0x00 ∷ []) 0 None
    ∷ faulty false (0xDC ∷ []) 0 None
    ∷ faulty false (0x41 ∷ []) 0 None
    ∷ faulty false (0x00 ∷ 0xD8 ∷ 0x41 ∷ 0x00 ∷ []) 0 (Some 2)
    ∷ faulty false (0x00 ∷ 0xD8 ∷ 0x00 ∷ 0xD8 ∷ []) 0 (Some 2)
    ∷ faulty false (0x00 ∷ 0xDC ∷ 0x00 ∷ 0xD8 ∷ []) 0 (Some 2)
    ∷ faulty false (0x00 ∷ 0xD8 ∷ 0x00 ∷ 0xDC ∷ 0x00 ∷ 0xD8 ∷ 0x00 ∷ 0xDC ∷ 0x00 ∷ []) 8 None
    ∷ faulty true (0xDC ∷ []) 0 None
    ∷ faulty true (0xD8 ∷ []) 0 None
    ∷ faulty true (0xD8 ∷ 0x00 ∷ 0xDC ∷ []) 0 None
    ∷ faulty true (0xD8 ∷ 0x00 ∷ 0x00 ∷ []) 0 None
    ∷ faulty true (0x00 ∷ 0x41 ∷ 0xD8 ∷ 0x00 ∷ []) 2 None
    ∷ []

faults_refused : list_all is_refused faults ≡ true
unfolding encode ill_formed_len valid_len valid_len_within is_incomplete is_utf16 text_of units_of utf16_chars
faults_refused = refl
