-- Where a pattern occurs in a text. Both are any bytes of UTF-16, well formed or not.
use Rattle.std.specs.Prelude.{ℕ, ◌+◌, ◌<◌, Bool, List, Option, None, Some, length}
use Rattle.utf16_units.specs.Laws.{OccursAt}
use Rattle.utf16_bytes.specs.Boundary.{IsCut}

-- the pattern occurs at an offset: its bytes are there, and both their ends are boundaries of the
-- text, so that it cuts neither a code unit nor a surrogate pair (Unicode, section 3.8)
pub record IsOccurrence (big : Bool) (text pattern : List ℕ) (at : ℕ) : Type 0 where
  pub bytes : OccursAt text at pattern
  pub start : IsCut big text at
  pub end : IsCut big text (at + length pattern)

-- the least number of a kind, if there is one
abbrev pub IsFirst : (ℕ → Type 0) → Option ℕ → Type 0
IsFirst P None = (n : ℕ) → ¬ (P n)
IsFirst P (Some n) = P n × ((m : ℕ) → m < n → ¬ (P m))

-- the greatest number of a kind, if there is one
abbrev pub IsLast : (ℕ → Type 0) → Option ℕ → Type 0
IsLast P None = (n : ℕ) → ¬ (P n)
IsLast P (Some n) = P n × ((m : ℕ) → n < m → ¬ (P m))
