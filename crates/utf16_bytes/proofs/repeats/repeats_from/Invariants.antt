use Rattle.std.proofs.Common.{◌≡◌, ◌+◌, ◌<◌, ◌≤◌, ℕ, slice_index}
use Rattle.utf16_bytes.proofs.repeats.repeats_from.Given as goal

abbrev pub invariant-loop-start : goal.invariant-loop-start
invariant-loop-start l = (l.start ≤ l.end) × ((k : ℕ) → l.start ≤ k → k < l.end → slice_index l.text k ≡ slice_index l.text (k + l.period))

abbrev pub decreases-loop-start : goal.decreases-loop-start
decreases-loop-start l = l.start
