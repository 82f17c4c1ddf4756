-- The length of a text in UTF-16 by the bytes of its UTF-8.
use Rattle.std.specs.Prelude.{ℕ, ◌+◌, Bool, not, List, ◌==◌, bit_and, count_by}

-- a byte that begins a character: any but a continuation byte (Unicode, section 3.9: table 3-6)
abbrev pub begins_char : ℕ → Bool
begins_char byte = not (bit_and byte 0xC0 == 0x80)

-- a byte that begins a character of four bytes, which has two units
abbrev pub begins_four : ℕ → Bool
begins_four byte = bit_and byte 0xF0 == 0xF0

-- the number of units of the characters that begin in the bytes
abbrev pub units_begun : List ℕ → ℕ
units_begun bytes = count_by begins_char bytes + count_by begins_four bytes
