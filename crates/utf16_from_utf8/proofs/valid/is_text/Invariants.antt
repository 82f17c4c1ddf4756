use Rattle.std.proofs.Common.{◌-◌, ◌<◌, ◌≤◌, ◌↔◌, ℕ, length, slice_index}
use Rattle.utf16_from_utf8.specs.Follow.{FollowTo}
use Rattle.utf16_from_utf8.proofs.valid.is_text.Given as goal

abbrev pub invariant-loop-read : goal.invariant-loop-read
invariant-loop-read l = record {
  within : l.read ≤ length l.bytes;
  faults : ((i : ℕ) → i < 16 → slice_index l.faults i < 1) ↔ FollowTo l.read l.bytes 0;
}

abbrev pub decreases-loop-read : goal.decreases-loop-read
decreases-loop-read l = length l.bytes - l.read
