use Rattle.std.proofs.Common.{length}
use Rattle.utf16_str.specs.WStr.{wstr_text}
use Rattle.utf16_str.proofs.TrimMatches.{IsTakenEnd}
use Rattle.utf16_str.proofs.wstr.WStr.trim_end_matches.Given as goal

-- the pattern was taken off a number of times
abbrev pub invariant-loop-front : goal.invariant-loop-front
invariant-loop-front g l = IsTakenEnd (g.P.Pattern.part l.pattern) (wstr_text l.self) (wstr_text l.text)

abbrev pub decreases-loop-front : goal.decreases-loop-front
decreases-loop-front g l = length (wstr_text l.text)
