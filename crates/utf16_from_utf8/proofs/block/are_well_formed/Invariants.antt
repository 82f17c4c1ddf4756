use Rattle.std.proofs.Common.{◌-◌, ◌≡◌, ◌<◌, ◌≤◌, ◌%◌, ◌↔◌, ℕ, slice_index}
use Rattle.utf16_from_utf8.specs.Follow.{FollowTo}
use Rattle.utf16_from_utf8.proofs.block.are_well_formed.Given as goal

abbrev pub invariant-loop-k : goal.invariant-loop-k
invariant-loop-k g l = record {
  some : 16 ≤ l.k;
  most : l.k ≤ 64;
  steps : l.k % 16 ≡ 0;
  follow : ((i : ℕ) → i < 16 → slice_index l.all i < 1) ↔ FollowTo l.k l.bytes l.at;
}

abbrev pub decreases-loop-k : goal.decreases-loop-k
decreases-loop-k g l = 64 - l.k
