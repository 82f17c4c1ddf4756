-- The UTF-16 of a text byte by byte of its UTF-8: what each byte adds after the two bytes before
-- it.
use Rattle.std.specs.Prelude.{ℕ, ◌+◌, ◌*◌, ◌/◌, ◌%◌, Bool, ◌&&◌, List, [], ◌∷◌, ◌++◌, nat_lt, if◌then◌else◌}
use Rattle.std.specs.List.{flat_map}
use Rattle.utf16_units.specs.Unit.{unit_bytes}

-- the unit whose last byte is b0, after b2 and b1: the unit of a character of one byte, of two or
-- of three bytes; of four bytes, the third ends the leading surrogate and the fourth the trailing
-- one (Unicode, section 3.9: tables 3-5 and 3-6)
unfoldable pub unit_after : ℕ → ℕ → ℕ → ℕ
unit_after b2 b1 b0 =
    if nat_lt b0 0x80 then b0
    else (if nat_lt b1 0xC0
    then (if nat_lt b2 0xE0
    then 0xDC00 + (b1 % 16 * 64 + b0 % 64)
    else (if nat_lt b2 0xF0 then b2 % 16 * 4096 + (b1 % 64 * 64 + b0 % 64) else 0xD7C0 + (b2 % 8 * 256 + (b1 % 64 * 4 + b0 % 64 / 16))))
    else b1 % 32 * 64 + b0 % 64)

-- whether a unit ends at b0: not at the first byte of several, nor at the byte after the first of
-- three or four (Unicode, section 3.9: table 3-6)
abbrev pub ends_unit : ℕ → ℕ → Bool
ends_unit b1 b0 = nat_lt b0 0xC0 && nat_lt b1 0xE0

-- what b0 adds: that unit, or none
abbrev pub added : ℕ → ℕ → ℕ → List ℕ
added b2 b1 b0 = if ends_unit b1 b0 then unit_after b2 b1 b0 ∷ [] else []

-- what several bytes add after b2 and b1
unfoldable pub all_added : ℕ → ℕ → List ℕ → List ℕ
all_added b2 b1 [] = []
all_added b2 b1 (b0 ∷ bytes) = added b2 b1 b0 ++ all_added b1 b0 bytes

-- the bytes of the units that they add (Unicode, section 3.10: UTF-16BE and UTF-16LE)
abbrev pub added_bytes : Bool → ℕ → ℕ → List ℕ → List ℕ
added_bytes big b2 b1 bytes = flat_map (unit_bytes big) (all_added b2 b1 bytes)
