-- Blocks of code units: SIMD lanes by index, what they hold of a unit, and how surrogates are
-- paired.
use Rattle.std.specs.Prelude.{◌≡◌, ℕ, All, ◌+◌, ◌*◌, ◌/◌, ◌%◌, ◌^◌, ◌<◌, ◌≤◌, Bool, false, cond, List, [], ◌∷◌, ◌++◌, length, drop, map, slice_index, take}
use Rattle.std.specs.Char.Utf16.{is_high_surrogate, is_low_surrogate}
use Rattle.utf16_units.specs.Encoding.{units_of}

-- n lanes, by index
pub record HasLanes (n : ℕ) (v : List ℕ) (lane : ℕ → ℕ) : Type 0 where
  pub len : length v ≡ n
  pub lanes : (i : ℕ) → i < n → slice_index v i ≡ lane i

-- a unit with its two bytes swapped, as lanes of sixteen bits compute it
abbrev pub swapped : ℕ → ℕ
swapped unit = (unit * 2 ^ 8 % 2 ^ 16 + unit / 2 ^ 8) % 2 ^ 16

-- the high byte of a unit, which decides whether the unit is a surrogate, and of which class
abbrev pub high_byte : ℕ → ℕ
high_byte unit = unit / 256

-- each unit is a trailing surrogate exactly if the one before it is a leading one (Unicode, section
-- 3.8: surrogate pair): `before` says whether the unit before the first is leading, `after` whether
-- the last one is
abbrev pub Paired : Bool → List ℕ → Bool → Type 0
Paired before units after = map is_low_surrogate units ++ after ∷ [] ≡ before ∷ map is_high_surrogate units

-- the unit is not a surrogate
abbrev pub IsNoSurrogate : ℕ → Type 0
IsNoSurrogate unit = (is_high_surrogate unit ≡ false) × (is_low_surrogate unit ≡ false)

-- no unit is a surrogate
abbrev pub HasNoSurrogate : List ℕ → Type 0
HasNoSurrogate units = All IsNoSurrogate units

-- the surrogates are not paired: a trailing unit has no leading unit before it, or a leading unit
-- that is not the last has no trailing unit after it
abbrev pub Unpaired : Bool → List ℕ → Type 0
Unpaired before units = (after : Bool) → ¬ Paired before units after

-- the bytes up to `at` are whole units whose surrogates are paired, and `after` says whether the
-- last one is leading
pub record PairedTo (big : Bool) (bytes : List ℕ) (at : ℕ) (after : Bool) : Type 0 where
  pub within : at ≤ length bytes
  pub even : at % 2 ≡ 0
  pub paired : Paired false (units_of big (take at bytes)) after

-- blocks of `size` bytes stop at `at`: fewer bytes are left, or the surrogates of the next block
-- are not paired
abbrev pub BlocksStopAt : ℕ → Bool → List ℕ → ℕ → Bool → Type 0
BlocksStopAt size big bytes at before = at + size ≤ length bytes → Unpaired before (units_of big (take size (drop at bytes)))

-- blocks of 32 bytes pass the bytes up to `size`: they stop at `at`, and a leading unit that ends
-- at `at` is left out
pub record PassedTo (big : Bool) (bytes : List ℕ) (size : ℕ) : Type 0 where
  pub at : ℕ
  pub leading : Bool
  pub paired : PairedTo big bytes at leading
  pub stops : BlocksStopAt 32 big bytes at leading
  pub back : size + cond leading 2 0 ≡ at
