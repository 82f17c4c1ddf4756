-- The parts of a file begin one after another.
use Rattle.std.proofs.Common.{ℕ, ◌+◌, ◌≤◌, arith}
use Rattle.std.proofs.lemmas.Bool.Decides.{nat_tests}
use Rattle.std.proofs.lemmas.Grind.{common_steps}
use Rattle.utf16_bytes.specs.Shards.{shard_start}

pub shard_start-ascends : (len count index : ℕ) → shard_start len count index ≤ shard_start len count (index + 1)
shard_start-ascends len count index = grind (arith, common_steps, nat_tests)
