use Rattle.std.proofs.Common.{◌≤◌, ◌-◌, length, take}
use Rattle.utf16_fixed.specs.Utf32.{IsUtf32}
use Rattle.utf16_fixed.proofs.validate.scalar_blocks.Given as goal

-- those so far are scalar values
abbrev pub invariant-loop-at : goal.invariant-loop-at
invariant-loop-at l = record {
  within : l.at ≤ length l.utf32;
  valid : IsUtf32 (take l.at l.utf32);
}

abbrev pub decreases-loop-at : goal.decreases-loop-at
decreases-loop-at l = length l.utf32 - l.at
