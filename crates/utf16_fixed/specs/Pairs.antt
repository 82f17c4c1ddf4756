-- Surrogate pairs in lanes of 32 bits. No public clause uses it.
use Rattle.std.specs.Prelude.{ℕ, ◌+◌, ◌-◌, ◌*◌, ◌/◌, ◌%◌, ◌^◌, List, [], ◌∷◌, bit_or, if◌then◌else◌}
use Rattle.utf16_fixed.specs.Utf32.{above}

-- two code units in each lane, the first in the low half
unfoldable pub joined : List ℕ → List ℕ
joined [] = []
joined (last ∷ []) = []
joined (first ∷ second ∷ units) = (first + 0x1_0000 * second) ∷ joined units

-- the ten bits of each surrogate of a pair, in the halves of a lane (Unicode, section 3.9: table
-- 3-5)
abbrev pub pair_bits : ℕ → ℕ
pair_bits pair = (pair + (2 ^ 32 - 0xDC00_D800)) % 2 ^ 32

-- the character of these bits
abbrev pub pair_char : ℕ → ℕ
pair_char bits = ((bits % 0x1_0000 * 2 ^ 10 % 2 ^ 32 + bits / 2 ^ 16) % 2 ^ 32 + 0x1_0000) % 2 ^ 32

-- what is at most 0x3FF exactly if both halves are
abbrev pub pair_test : ℕ → ℕ
pair_test bits = bit_or (bits % 0x1_0000) (bits / 2 ^ 16)

-- the offset of a character from U+10000
abbrev pub pair_offset : ℕ → ℕ
pair_offset char = (char + (2 ^ 32 - 0x1_0000)) % 2 ^ 32

-- the pair of an offset (Unicode, section 3.9: table 3-5)
abbrev pub pair_of : ℕ → ℕ
pair_of offset = ((offset % 0x400 * 2 ^ 16 % 2 ^ 32 + offset / 2 ^ 10) % 2 ^ 32 + 0xDC00_D800) % 2 ^ 32

-- the code units of a character in the halves of a lane: if it has one, the second half is zero
-- (Unicode, section 3.9: UTF-16 encoding form)
abbrev pub char_lane : ℕ → ℕ
char_lane char = if above 0xFFFF char then pair_of (pair_offset char) else char

-- a lane whose halves are not zero where those of char_lane are code units of the character
abbrev pub kept_lane : ℕ → ℕ
kept_lane char = if above 0xFFFF char then 0x1_0001 else 1

-- the halves of each lane, the low one first
unfoldable pub halved : List ℕ → List ℕ
halved [] = []
halved (pair ∷ pairs) = pair % 0x1_0000 ∷ pair / 0x1_0000 ∷ halved pairs
