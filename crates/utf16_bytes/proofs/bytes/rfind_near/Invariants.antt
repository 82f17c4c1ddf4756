use Rattle.std.proofs.Common.{◌<◌, ◌≤◌, ◌-◌, ℕ}
use Rattle.utf16_bytes.specs.Occurrence.{IsOccurrence}
use Rattle.utf16_bytes.proofs.bytes.rfind_near.Given as goal

abbrev pub invariant-loop-at : goal.invariant-loop-at
invariant-loop-at g l = (l.at ≤ l.end) × (l.end - 32 ≤ l.at) × ((i : ℕ) → l.at ≤ i → i < l.end → ¬ (IsOccurrence g.E.Utf16Order.BIG l.text l.pattern i))

abbrev pub decreases-loop-at : goal.decreases-loop-at
decreases-loop-at g l = l.at
