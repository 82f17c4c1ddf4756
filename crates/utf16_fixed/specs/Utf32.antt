-- UTF-32: a text as code units of 32 bits, each of which is one scalar value.
use Rattle.std.specs.Prelude.{◌≡◌, ℕ, ◌<◌, Bool, true, ◌&&◌, List, [], ◌∷◌, All, if◌then◌else◌, length, map, nat_le, nat_lt, slice_index, take}
use Rattle.std.specs.Char.{IsScalar}
use Rattle.utf16_units.specs.Encoding.{Encodes, encode}

-- the code unit of a scalar value (Unicode, section 3.9: UTF-32 encoding form)
abbrev pub utf32_units : ℕ → List ℕ
utf32_units c = c ∷ []

-- well-formed UTF-32: each code unit is a scalar value (Unicode, section 3.9: UTF-32 encoding form)
abbrev pub IsUtf32 : List ℕ → Type 0
IsUtf32 units = All IsScalar units

-- code units that are not UTF-32: the first that is not a scalar value is at offset n (Unicode,
-- section 3.9: ill-formed)
pub record IsUtf32ValidUpTo (units : List ℕ) (n : ℕ) : Type 0 where
  pub within : n < length units
  pub valid : IsUtf32 (take n units)
  pub ill_formed : ¬ IsScalar (slice_index units n)

-- bytes of UTF-16 and the UTF-32 of the same text
abbrev pub TranscodesToUtf32 : Bool → List ℕ → List ℕ → Type 0
TranscodesToUtf32 big raw units = Encodes big units raw

-- UTF-32 and the bytes of the same text in UTF-16
abbrev pub TranscodesFromUtf32 : Bool → List ℕ → List ℕ → Type 0
TranscodesFromUtf32 big units raw = Encodes big units raw

-- whether a code unit is a scalar value, computed (Unicode, section 3.9: scalar value)
abbrev pub is_scalar : ℕ → Bool
is_scalar unit = if nat_lt unit 0xD800 then true else (nat_le 0xE000 unit && nat_lt unit 0x11_0000)

-- the character of a code unit: U+FFFD, the replacement character, if it is not a scalar value
-- (Unicode, section 3.9: U+FFFD substitution)
abbrev pub lossy_unit : ℕ → ℕ
lossy_unit unit = if is_scalar unit then unit else 0xFFFD

-- the text of any code units
abbrev pub lossy_utf32 : List ℕ → List ℕ
lossy_utf32 units = map lossy_unit units

-- code units, and the bytes of their text in UTF-16
abbrev pub ShowsInUtf16 : Bool → List ℕ → List ℕ → Type 0
ShowsInUtf16 big units raw = raw ≡ encode big (lossy_utf32 units)

-- whether a code unit is above a limit
abbrev pub above : ℕ → ℕ → Bool
above limit unit = nat_lt limit unit

-- code units that are each a character of one UTF-16 code unit (Unicode, section 3.9: UTF-16
-- encoding form)
pub record AreBasic (units : List ℕ) : Type 0 where
  pub valid : IsUtf32 units
  pub low : All (λ unit. unit < 0x1_0000) units
