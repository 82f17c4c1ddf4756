use Rattle.std.proofs.Common.{◌-◌, length}
use Rattle.utf16_bytes.proofs.NulLemmas.{LacksNulTo}
use Rattle.utf16_bytes.proofs.nul.nul_in_blocks.Given as goal

abbrev pub invariant-loop-at : goal.invariant-loop-at
invariant-loop-at l = LacksNulTo l.units l.at

abbrev pub decreases-loop-at : goal.decreases-loop-at
decreases-loop-at l = length l.units - l.at

abbrev pub invariant-loop-at-2 : goal.invariant-loop-at-2
invariant-loop-at-2 l = LacksNulTo l.units l.at

abbrev pub decreases-loop-at-2 : goal.decreases-loop-at-2
decreases-loop-at-2 l = length l.units - l.at
