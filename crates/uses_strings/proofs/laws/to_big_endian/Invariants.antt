use Rattle.std.proofs.Common.{◌≡◌, ◌-◌, ◌%◌, ◌≤◌, ◌++◌, drop, length}
use Rattle.utf16_units.specs.Laws.{swap_bytes}
use Rattle.uses_strings.proofs.laws.to_big_endian.Given as goal

-- the bytes swapped so far, followed by the rest swapped, are all bytes swapped
abbrev pub invariant-loop-at : goal.invariant-loop-at
invariant-loop-at g l = record {
  within : l.at ≤ length l.raw;
  even : l.at % 2 ≡ 0;
  swapped : l.swapped.items ++ swap_bytes (drop l.at l.raw) ≡ swap_bytes l.raw;
}

abbrev pub decreases-loop-at : goal.decreases-loop-at
decreases-loop-at g l = length l.raw - l.at
