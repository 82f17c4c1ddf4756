-- The places of the bytes of a short text in its first and its last eight bytes.
use Rattle.std.specs.Prelude.{◌≡◌, ℕ, ◌+◌, ◌-◌, ◌<◌, List, true, if◌then◌else◌, length, nat_lt, slice_index}
use Rattle.std.specs.Simd.Lanes.{all_below}

-- the place of the byte at i: in the first eight bytes, or in the last eight
abbrev pub place : ℕ → ℕ → ℕ
place len i = if nat_lt i 8 then i else (if nat_lt i len then i + 16 - len else 0)

pub record IsOrder (len : ℕ) (order : List ℕ) : Type 0 where
  pub places : (i : ℕ) → i < 16 → slice_index order i ≡ place len i
  pub length : length order ≡ 16
  pub below : all_below 16 order ≡ true
