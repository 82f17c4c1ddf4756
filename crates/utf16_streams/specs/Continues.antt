-- How the output for a stream continues when more bytes come.
use Rattle.std.specs.Prelude.{◌≡◌, ℕ, List, ◌++◌}

-- `decided` gives the output that is certain once some bytes have come, and `whole` the whole
-- output if the stream ends with them. Once `bytes` have come, `decided_then` and `whole_then` give
-- what more bytes add to the output.
pub record Continues (decided whole decided_then whole_then : List ℕ → List ℕ) (bytes : List ℕ)
    : Type 0 where
  pub certain : (back : List ℕ) → decided (bytes ++ back) ≡ decided bytes ++ decided_then back
  pub all : (back : List ℕ) → whole (bytes ++ back) ≡ decided bytes ++ whole_then back
