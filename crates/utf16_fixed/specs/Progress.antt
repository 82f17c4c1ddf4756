-- The progress of the two conversions over characters of one code unit of UTF-16. No public clause
-- uses it.
use Rattle.std.specs.Prelude.{◌≡◌, ◌≢◌, ℕ, ◌+◌, ◌-◌, ◌*◌, ◌/◌, ◌%◌, ◌^◌, ◌<◌, ◌≤◌, Bool, List, if◌then◌else◌, length, nat_lt, take}
use Rattle.std.specs.List.{flat_map}
use Rattle.utf16_units.specs.Encoding.{units_of}
use Rattle.utf16_units.specs.Lanes.{HasNoSurrogate}
use Rattle.utf16_units.specs.Unit.{unit_bytes}
use Rattle.utf16_fixed.specs.Utf32.{AreBasic}

-- the first n units of the bytes are not surrogates, and were written as n code units of UTF-32
pub record IsWidened (big : Bool) (raw new : List ℕ) (n : ℕ) : Type 0 where
  pub within : 2 * n ≤ length raw
  pub fits : n ≤ length new
  pub plain : HasNoSurrogate (take n new)
  pub wrote : take n new ≡ units_of big (take (2 * n) raw)

-- the first n code units of UTF-32 are characters of one unit of UTF-16 each, and were written so
pub record IsNarrowed (big : Bool) (units new : List ℕ) (n : ℕ) : Type 0 where
  pub within : n ≤ length units
  pub fits : 2 * n ≤ length new
  pub basic : AreBasic (take n units)
  pub wrote : take (2 * n) new ≡ flat_map (unit_bytes big) (take n units)

-- a code unit of UTF-32 in sixteen bits: 0xFFFF if it is above
abbrev pub low_unit : ℕ → ℕ
low_unit unit = if nat_lt unit 0xFFFF then unit else 0xFFFF

-- the low unit of a character that is one unit of UTF-16
pub record IsBasicLow (low : ℕ) : Type 0 where
  pub below : low < 0xFFFF
  pub plain : low / 0x800 ≢ 0x1B

-- how far a unit is above 0xD800, in sixteen bits
abbrev pub from_surrogates : ℕ → ℕ
from_surrogates unit = (unit + (2 ^ 16 - 0xD800)) % 2 ^ 16
