use Rattle.std.proofs.Common.{◌-◌, length}
use Rattle.utf16_fixed.proofs.GreatestLemmas.{ScannedTo}
use Rattle.utf16_fixed.proofs.scan.scan.Given as goal

abbrev pub invariant-loop-at : goal.invariant-loop-at
invariant-loop-at g l = ScannedTo g.E.Utf16Order.BIG l.text l.at l.found.trailing l.found.greatest

abbrev pub decreases-loop-at : goal.decreases-loop-at
decreases-loop-at g l = length l.text - l.at
