use Rattle.std.proofs.Common.{◌≡◌, length, true}
use Rattle.utf16_str.specs.WStr.{wstr_text}
use Rattle.utf16_str.proofs.PredicatePassed.{IsPassedBack}
use Rattle.utf16_str.proofs.wstr.WStr.trim_end_by.Given as goal

-- the predicate is true for what was passed
abbrev pub invariant-loop-c : goal.invariant-loop-c
invariant-loop-c g l = record {
  passed : IsPassedBack (goal.F-post g l.predicate) true (wstr_text l.fn.self) (wstr_text l.front);
  same : l.chars ≡ wstr_text l.front;
}

abbrev pub decreases-loop-c : goal.decreases-loop-c
decreases-loop-c g l = length l.chars
