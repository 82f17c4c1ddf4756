use Rattle.std.proofs.Common.{◌-◌, length}
use Rattle.utf16_units.proofs.CountLemmas.{CountedTo}
use Rattle.utf16_units.proofs.text.trailing_units.Given as goal

abbrev pub invariant-loop-at : goal.invariant-loop-at
invariant-loop-at g l = CountedTo g.E.Utf16Order.BIG l.raw l.at l.trailing

abbrev pub decreases-loop-at : goal.decreases-loop-at
decreases-loop-at g l = length l.raw - l.at

abbrev pub invariant-loop-at-2 : goal.invariant-loop-at-2
invariant-loop-at-2 g l = CountedTo g.E.Utf16Order.BIG l.raw l.at l.trailing

abbrev pub decreases-loop-at-2 : goal.decreases-loop-at-2
decreases-loop-at-2 g l = length l.raw - l.at
