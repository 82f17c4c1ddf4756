use Rattle.std.proofs.Common.{◌≡◌, ◌≤◌, ◌-◌, count_by, length, take}
use Rattle.utf16_fixed.specs.Utf32.{above}
use Rattle.utf16_fixed.proofs.encode_lossy.count_above.Given as goal

-- those so far are counted
abbrev pub invariant-loop-at : goal.invariant-loop-at
invariant-loop-at l = record {
  within : l.at ≤ length l.utf32;
  counted : l.count ≡ count_by (above l.limit) (take l.at l.utf32);
}

abbrev pub decreases-loop-at : goal.decreases-loop-at
decreases-loop-at l = length l.utf32 - l.at

abbrev pub invariant-loop-at-2 : goal.invariant-loop-at-2
invariant-loop-at-2 l = record {
  within : l.at ≤ length l.utf32;
  counted : l.count ≡ count_by (above l.limit) (take l.at l.utf32);
}

abbrev pub decreases-loop-at-2 : goal.decreases-loop-at-2
decreases-loop-at-2 l = length l.utf32 - l.at
