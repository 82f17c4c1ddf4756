-- The whole text of any bytes, with U+FFFD for each ill-formed sequence, and a prefix of it that
-- was written.
use Rattle.std.specs.Prelude.{◌≡◌, ℕ, ◌≤◌, List, ◌++◌, length, take, drop}
use Rattle.std.specs.List.{flat_map}

-- the first bytes of the input were read, and what was written is a prefix of the bytes of the
-- whole text; the bytes of the rest's whole text follow it
pub record WritesWhole (text : List ℕ → List ℕ) (into : ℕ → List ℕ) (input to : List ℕ) (read written : ℕ) : Type 0 where
  pub within : read ≤ length input
  pub fits : written ≤ length to
  pub shown : flat_map into (text input) ≡ take written to ++ flat_map into (text (drop read input))
