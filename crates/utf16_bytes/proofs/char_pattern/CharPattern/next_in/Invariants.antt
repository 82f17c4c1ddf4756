use Rattle.std.proofs.Common.{length}
use Rattle.utf16_bytes.proofs.PassedBytes.{IsPassed}
use Rattle.utf16_bytes.proofs.char_pattern.CharPattern.next_in.Given as goal

-- the characters so far are not the wanted one
abbrev pub invariant-loop-rest : goal.invariant-loop-rest
invariant-loop-rest g l = IsPassed g.E.Utf16Order.BIG l.self l.bytes l.rest

abbrev pub decreases-loop-rest : goal.decreases-loop-rest
decreases-loop-rest g l = length l.rest
