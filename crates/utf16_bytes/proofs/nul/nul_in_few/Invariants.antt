use Rattle.std.proofs.Common.{◌-◌, length}
use Rattle.utf16_bytes.proofs.NulLemmas.{LacksNulTo}
use Rattle.utf16_bytes.proofs.nul.nul_in_few.Given as goal

abbrev pub invariant-loop-at : goal.invariant-loop-at
invariant-loop-at l = LacksNulTo l.units l.at

abbrev pub decreases-loop-at : goal.decreases-loop-at
decreases-loop-at l = length l.units - l.at
