use Rattle.std.proofs.Common.{◌-◌, ◌≤◌, List}
use Rattle.utf16_fixed.proofs.blocks.repeat_block.Given as goal

-- the characters before `at` are written, if those before `start` were
abbrev pub invariant-loop-at : goal.invariant-loop-at
invariant-loop-at g l = record {
  written : (before : List g.row.R-To.Denot) → g.R.Fixed.IsWritten l.from before l.fn.to l.start → g.R.Fixed.IsWritten l.from before l.to l.at;
  few : l.at ≤ l.most;
}

abbrev pub decreases-loop-at : goal.decreases-loop-at
decreases-loop-at g l = l.most - l.at
