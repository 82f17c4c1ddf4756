-- What the comparison of texts computes, unit by unit. No public clause uses it.
use Rattle.std.specs.Prelude.{◌≡◌, ℕ, ◌+◌, ◌-◌, ◌%◌, ◌≤◌, Bool, not, List, length, take, drop, nat_eq, nat_lt, if◌then◌else◌}
use Rattle.std.specs.Cmp.Lexicographic.{slice_cmp}
use Rattle.std.specs.Ordering.{nat_cmp, on}
use Rattle.std.specs.Simd.Lanes.{mask_l, zip2}
use Rattle.std.specs.declared.cmp.Ordering.{Ordering}
use Rattle.utf16_units.specs.Encoding.{units_of}

-- the rank of a unit among all units if surrogates come after the others (Unicode, section 5.17:
-- fix-up of UTF-16 for code point order)
abbrev pub unit_rank : ℕ → ℕ
unit_rank unit = if nat_lt unit 0xD800 then unit else (if nat_lt unit 0xE000 then unit + 0x2000 else unit - 0x800)

-- compares lists of units by their ranks: the first units that differ decide, else the lengths
abbrev pub ranked_cmp : List ℕ → List ℕ → Ordering
ranked_cmp = slice_cmp (on unit_rank nat_cmp)

-- compares the units of two lists of bytes
abbrev pub units_cmp : Bool → List ℕ → List ℕ → Ordering
units_cmp big bytes other = ranked_cmp (units_of big bytes) (units_of big other)

-- the first n bytes of both are the same, and are whole units
pub record SameTo (bytes other : List ℕ) (n : ℕ) : Type 0 where
  pub within : n ≤ length bytes
  pub other_within : n ≤ length other
  pub even : n % 2 ≡ 0
  pub same : take n bytes ≡ take n other

-- a bit for each of the n bytes at an offset that differs
abbrev pub differing : ℕ → ℕ → List ℕ → List ℕ → ℕ
differing at n bytes other = mask_l (zip2 (λ byte b. not (nat_eq byte b)) (take n (drop at bytes)) (take n (drop at other)))
