use Rattle.std.proofs.Common.{false, length}
use Rattle.utf16_str.specs.WStr.{wstr_text}
use Rattle.utf16_str.proofs.PredicatePassed.{IsPassedBack}
use Rattle.utf16_str.proofs.wstr.WStr.rfind_by.Given as goal

-- the predicate is false for what was passed
abbrev pub invariant-loop-c : goal.invariant-loop-c
invariant-loop-c g l = IsPassedBack (goal.F-post g l.predicate) false (wstr_text l.fn.self) l.chars

abbrev pub decreases-loop-c : goal.decreases-loop-c
decreases-loop-c g l = length l.chars
