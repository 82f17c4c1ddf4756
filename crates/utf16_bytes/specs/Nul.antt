-- The first NUL of a text. The bytes are any bytes of UTF-16, well formed or not.
use Rattle.std.specs.Prelude.{◌≡◌, ◌≢◌, ℕ, ◌/◌, ◌%◌, ◌<◌, ◌≤◌, All, Bool, List, Some, length, take}
use Rattle.std.specs.List.{slice_get}
use Rattle.utf16_units.specs.Encoding.{units_of}

-- a NUL is at an offset: the code unit there, which begins at an even offset, is U+0000
abbrev pub IsNul : Bool → List ℕ → ℕ → Type 0
IsNul big bytes at = (at % 2 ≡ 0) × (slice_get (units_of big bytes) (at / 2) ≡ Some 0)

-- the offset of the first NUL, or the length of the bytes if there is none: no code unit before it
-- is U+0000, and a NUL is at it unless it is the length
pub record IsNulOffset (big : Bool) (bytes : List ℕ) (at : ℕ) : Type 0 where
  pub within : at ≤ length bytes
  pub before : All (λ unit. unit ≢ 0) (units_of big (take at bytes))
  pub nul : at < length bytes → IsNul big bytes at
