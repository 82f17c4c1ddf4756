use Rattle.std.proofs.Common.{◌≡◌, ◌+◌, ◌-◌, ◌%◌, ◌≤◌, drop, length, sum_by}
use Rattle.utf16_units.specs.Encoding.{units_of}
use Rattle.utf16_to_utf8.specs.Lanes.{added_len}
use Rattle.utf16_to_utf8.proofs.lens.units_len.Given as goal

-- the length so far, and what the units that are left add, is what all of them add
abbrev pub invariant-loop-at : goal.invariant-loop-at
invariant-loop-at g l = record {
  within : l.at ≤ length l.raw;
  even : l.at % 2 ≡ 0;
  counted : l.len + sum_by added_len (units_of g.E.Utf16Order.BIG (drop l.at l.raw)) ≡ sum_by added_len (units_of g.E.Utf16Order.BIG l.raw);
}

abbrev pub decreases-loop-at : goal.decreases-loop-at
decreases-loop-at g l = length l.raw - l.at
