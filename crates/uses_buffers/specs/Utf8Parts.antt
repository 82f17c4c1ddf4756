-- Where parts of any bytes of UTF-8 end.
use Rattle.std.specs.Prelude.{ℕ, ◌≤◌, List}
use Rattle.utf8_bytes.specs.Boundary.{IsCut}

-- the greatest boundary at or before an offset
pub record IsLastCut (bytes : List ℕ) (at n : ℕ) : Type 0 where
  pub cut : IsCut bytes n
  pub within : n ≤ at
  pub last : (m : ℕ) → IsCut bytes m → m ≤ at → m ≤ n
