use Rattle.std.proofs.Common.{◌-◌, ◌<◌, ◌≤◌, ◌⊎◌, ℕ, length, slice_index}
use Rattle.utf16_from_utf8.proofs.rest.most_bytes.Given as goal

-- a limit above all lanes is above the bytes from the first on that were read
abbrev pub invariant-loop-k : goal.invariant-loop-k
invariant-loop-k l = record {
  within : l.k ≤ length l.bytes;
  below : (limit : ℕ) → 0 < limit → ((i : ℕ) → i < 16 → slice_index l.all i < limit) → (j : ℕ) → l.fn.at - 18 ≤ j → (j < l.k) ⊎ (length l.bytes - 16 ≤ j) → slice_index l.bytes j < limit;
}

abbrev pub decreases-loop-k : goal.decreases-loop-k
decreases-loop-k l = length l.bytes - l.k
