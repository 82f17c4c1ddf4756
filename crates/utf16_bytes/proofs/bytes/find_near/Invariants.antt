use Rattle.std.proofs.Common.{◌<◌, ◌≤◌, ℕ}
use Rattle.utf16_bytes.specs.Occurrence.{IsOccurrence}
use Rattle.utf16_bytes.proofs.bytes.find_near.Given as goal

abbrev pub invariant-loop-at : goal.invariant-loop-at
invariant-loop-at g l = (i : ℕ) → l.start ≤ i → i < l.at → ¬ (IsOccurrence g.E.Utf16Order.BIG l.text l.pattern i)
