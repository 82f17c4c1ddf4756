use Rattle.std.proofs.Common.{◌-◌, length}
use Rattle.utf16_units.specs.Compared.{SameTo}
use Rattle.utf16_units.proofs.compare.same_pairs.Given as goal

abbrev pub invariant-loop-at : goal.invariant-loop-at
invariant-loop-at g l = SameTo l.first l.second l.at

abbrev pub decreases-loop-at : goal.decreases-loop-at
decreases-loop-at g l = length l.first - l.at
