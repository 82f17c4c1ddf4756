-- The shards of a file of UTF-16: parts with about equal lengths, before their ends are moved to
-- boundaries.
use Rattle.std.specs.Prelude.{ℕ, ◌+◌, ◌-◌, ◌*◌, ◌/◌, ◌%◌, min, nat_lt, if◌then◌else◌}

-- how many whole code units each shard has at least, and how many of the first shards have one more
abbrev pub units_each : ℕ → ℕ → ℕ
units_each len count = len / 2 / count

abbrev pub shards_with_more : ℕ → ℕ → ℕ
shards_with_more len count = len / 2 % count

-- where a shard begins, after the code units of the shards before it; a shard after the last begins
-- at the end
abbrev pub shard_start : ℕ → ℕ → ℕ → ℕ
shard_start len count index =
    if nat_lt index count then 2 * (index * units_each len count + min index (shards_with_more len count)) else len

-- how long a shard is
abbrev pub shard_len : ℕ → ℕ → ℕ → ℕ
shard_len len count index = shard_start len count (index + 1) - shard_start len count index
