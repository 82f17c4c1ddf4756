-- Code units of UTF-16: the two classes of surrogates, and the two bytes of a unit in each byte
-- order. `big` gives the byte order: `true` is big endian, `false` little endian.
use Rattle.std.specs.Prelude.{ℕ, ◌+◌, ◌*◌, ◌/◌, ◌%◌, ◌≤◌, Bool, true, false, List, [], ◌∷◌}

-- a leading (high) surrogate (Unicode, section 3.8: high-surrogate code unit)
abbrev pub IsLeading : ℕ → Type 0
IsLeading unit = (0xD800 ≤ unit) × (unit ≤ 0xDBFF)

-- a trailing (low) surrogate (Unicode, section 3.8: low-surrogate code unit)
abbrev pub IsTrailing : ℕ → Type 0
IsTrailing unit = (0xDC00 ≤ unit) × (unit ≤ 0xDFFF)

-- the two bytes of a unit (Unicode, section 3.10: UTF-16BE and UTF-16LE)
abbrev pub unit_bytes : Bool → ℕ → List ℕ
unit_bytes true unit = unit / 256 ∷ unit % 256 ∷ []
unit_bytes false unit = unit % 256 ∷ unit / 256 ∷ []

-- the unit of two bytes, the first byte first (Unicode, section 3.10: UTF-16BE and UTF-16LE)
abbrev pub unit_of : Bool → ℕ → ℕ → ℕ
unit_of true first second = 256 * first + second
unit_of false first second = 256 * second + first
