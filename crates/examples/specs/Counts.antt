-- The number of characters and the number of line feeds of a text.
use Rattle.std.specs.Prelude.{◌≡◌, ◌==◌, ℕ, ◌-◌, ◌^◌, List, count_by, length, min}
use Rattle.examples.specs.declared.counts.Counts.{Counts}

-- the counts of a text, each at most the largest `usize`
abbrev pub AreCounts : List ℕ → Counts → Type 0
AreCounts text counts = (counts.chars ≡ min (length text) (2 ^ 64 - 1)) × (counts.line_feeds ≡ min (count_by (λ c. c == 10) text) (2 ^ 64 - 1))
