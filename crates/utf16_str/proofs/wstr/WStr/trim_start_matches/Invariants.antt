use Rattle.std.proofs.Common.{length}
use Rattle.utf16_str.specs.WStr.{wstr_text}
use Rattle.utf16_str.proofs.TrimMatches.{IsTakenStart}
use Rattle.utf16_str.proofs.wstr.WStr.trim_start_matches.Given as goal

-- the pattern was taken off a number of times
abbrev pub invariant-loop-rest : goal.invariant-loop-rest
invariant-loop-rest g l = IsTakenStart (g.P.Pattern.part l.pattern) (wstr_text l.self) (wstr_text l.text)

abbrev pub decreases-loop-rest : goal.decreases-loop-rest
decreases-loop-rest g l = length (wstr_text l.text)
