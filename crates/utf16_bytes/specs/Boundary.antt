-- Where any bytes of UTF-16 may be cut, well formed or not, so that each part can be decoded by
-- itself.
use Rattle.std.specs.Prelude.{◌≡◌, ℕ, ◌-◌, ◌%◌, ◌<◌, ◌≤◌, ◌⊎◌, Bool, List, length, take, drop, slice_index}
use Rattle.utf16_units.specs.Split.{BeginsUnpaired}
use Rattle.utf16_units.specs.Unit.{IsLeading, unit_of}

-- the last two bytes are a leading surrogate
abbrev pub EndsLeading : Bool → List ℕ → Type 0
EndsLeading big bytes = (2 ≤ length bytes)
    × IsLeading (unit_of big (slice_index bytes (length bytes - 2)) (slice_index bytes (length bytes - 1)))

-- an offset between two code units, unless the first is a leading surrogate, and the second is a
-- trailing one or cut short by the end of the bytes (Unicode, section 3.8: surrogate pair)
abbrev pub IsBetween : Bool → List ℕ → ℕ → Type 0
IsBetween big bytes at = (at < length bytes) × (at % 2 ≡ 0)
    × (EndsLeading big (take at bytes) → BeginsUnpaired big (drop at bytes))

-- a boundary: such an offset, or the end
abbrev pub IsCut : Bool → List ℕ → ℕ → Type 0
IsCut big bytes at = (at ≡ length bytes) ⊎ IsBetween big bytes at

-- the greatest boundary at or before an offset
pub record IsLastCut (big : Bool) (bytes : List ℕ) (at n : ℕ) : Type 0 where
  pub cut : IsCut big bytes n
  pub within : n ≤ at
  pub last : (m : ℕ) → IsCut big bytes m → m ≤ at → m ≤ n
