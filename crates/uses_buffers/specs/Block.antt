-- Bytes that are the beginning of a well-formed text in UTF-8.
use Rattle.std.specs.Prelude.{ℕ, List, ◌++◌}
use Rattle.std.specs.Str.{IsUtf8}

-- some bytes after them make them well formed
abbrev pub BeginsText : List ℕ → Type 0
BeginsText bytes = (more : List ℕ) × IsUtf8 (bytes ++ more)
