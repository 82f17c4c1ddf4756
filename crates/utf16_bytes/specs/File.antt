-- The bytes of a file around an offset.
use Rattle.std.specs.Prelude.{◌≡◌, ℕ, ◌-◌, ◌*◌, ◌/◌, ◌≤◌, Bool, List, length, take, drop}
use Rattle.utf16_bytes.specs.Boundary.{IsLastCut}

-- where the bytes begin: at the code unit before the one that has the offset, if there is one
abbrev pub around_start : ℕ → ℕ
around_start at = at / 2 * 2 - 2

-- the two code units from there on, or as much of them as the file has
abbrev pub bytes_around : List ℕ → ℕ → List ℕ
bytes_around file at = take 4 (drop (around_start at) file)

-- the greatest boundary at or before the offset, computed from the bytes around it only
abbrev pub IsLastCutAround : Bool → List ℕ → ℕ → ℕ → Type 0
IsLastCutAround big around at n = IsLastCut big around (at - around_start at) (n - around_start at)

-- the greatest boundary in each file that has these bytes around the offset
abbrev pub IsLastCutOfFile : Bool → List ℕ → ℕ → ℕ → Type 0
IsLastCutOfFile big around at n =
    (file : List ℕ) → around ≡ bytes_around file at → at ≤ length file → IsLastCut big file at n
