use Rattle.std.proofs.Common.{◌+◌, ◌≤◌, ℕ, length}
use Rattle.utf16_bytes.specs.Occurrence.{IsOccurrence}
use Rattle.utf16_bytes.proofs.backwards.rfind.Given as goal

abbrev pub invariant-loop-below : goal.invariant-loop-below
invariant-loop-below g l = (l.last ≤ length l.text) × (l.below ≤ l.last + 1)
    × ((i : ℕ) → l.below ≤ i → ¬ (IsOccurrence g.E.Utf16Order.BIG l.text l.pattern i))

abbrev pub decreases-loop-below : goal.decreases-loop-below
decreases-loop-below g l = l.below
