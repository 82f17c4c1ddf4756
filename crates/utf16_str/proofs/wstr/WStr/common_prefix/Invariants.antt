use Rattle.utf16_str.specs.WStr.{wstr_text}
use Rattle.utf16_str.proofs.CommonLemmas.{IsShared}
use Rattle.utf16_str.proofs.wstr.WStr.common_prefix.Given as goal

-- what was read so far is the same in both
abbrev pub invariant-loop-at : goal.invariant-loop-at
invariant-loop-at g l = IsShared (wstr_text l.self) (wstr_text l.other) l.at-iterator l.theirs
