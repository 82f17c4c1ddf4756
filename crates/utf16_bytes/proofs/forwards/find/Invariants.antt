use Rattle.std.proofs.Common.{◌+◌, ◌-◌, ◌<◌, ◌≤◌, ℕ, length}
use Rattle.utf16_bytes.specs.Occurrence.{IsOccurrence}
use Rattle.utf16_bytes.proofs.forwards.find.Given as goal

abbrev pub invariant-loop-start : goal.invariant-loop-start
invariant-loop-start g l = (l.last ≤ l.start) × ((i : ℕ) → i < l.start → ¬ (IsOccurrence g.E.Utf16Order.BIG l.text l.pattern i))

abbrev pub decreases-loop-start : goal.decreases-loop-start
decreases-loop-start g l = length l.text + 1 - l.start
