-- What appending a text in UTF-8 leaves.
use Rattle.std.specs.Prelude.{◌≡◌, ℕ, ◌≤◌, List, ◌++◌, encode_utf8_all}

-- the bytes are the old ones followed by the text's UTF-8, and the capacity has not shrunk
pub record IsPut (text done now : List ℕ) (room more : ℕ) : Type 0 where
  pub bytes : now ≡ done ++ encode_utf8_all text
  pub grows : room ≤ more
