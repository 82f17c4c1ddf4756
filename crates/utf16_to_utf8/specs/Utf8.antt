-- The UTF-8 of a text by its code units: what each unit adds after the unit before it.
use Rattle.std.specs.Prelude.{◌≡◌, ℕ, ◌+◌, ◌-◌, ◌*◌, ◌/◌, ◌%◌, List, [], ◌∷◌, ◌++◌, All, encode_utf8_all, nat_lt, if◌then◌else◌}
use Rattle.std.specs.Char.{IsScalar}
use Rattle.std.specs.Char.Escape.{encode_utf16}
use Rattle.std.specs.Char.Utf16.{is_high_surrogate, is_low_surrogate}
use Rattle.std.specs.List.{flat_map}

-- a continuation byte, which has six bits (Unicode, section 3.9: table 3-6)
abbrev pub continuation : ℕ → ℕ
continuation bits = 0x80 + bits % 64

-- what a unit adds after the unit before it (Unicode, section 3.9: tables 3-5 and 3-6): the one to
-- three bytes of its character; a surrogate pair has four bytes, and each surrogate adds two of
-- them; the trailing one needs two bits of the leading one
unfoldable pub unit_utf8 : ℕ → ℕ → List ℕ
unit_utf8 before unit =
    if nat_lt unit 0x80 then unit ∷ [] else
    (if nat_lt unit 0x800 then (0xC0 + unit / 64) ∷ continuation unit ∷ [] else
    (if is_high_surrogate unit then (0xF0 + (unit - 0xD7C0) / 256) ∷ continuation ((unit - 0xD7C0) / 4) ∷ [] else
    (if is_low_surrogate unit then continuation (before % 4 * 16 + unit % 1024 / 64) ∷ continuation unit ∷ [] else
    (0xE0 + unit / 4096) ∷ continuation (unit / 64) ∷ continuation unit ∷ [])))

-- what several units add, one after another, the first after `before`
unfoldable pub units_utf8 : ℕ → List ℕ → List ℕ
units_utf8 before [] = []
units_utf8 before (unit ∷ units) = unit_utf8 before unit ++ units_utf8 unit units

-- what the units of a text add is its UTF-8, whatever unit comes before them
abbrev pub UnitsAddUtf8 : Type 0
UnitsAddUtf8 = (before : ℕ) (text : List ℕ) → All IsScalar text → units_utf8 before (flat_map encode_utf16 text) ≡ encode_utf8_all text
