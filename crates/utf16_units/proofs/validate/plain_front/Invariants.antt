use Rattle.std.proofs.Common.{◌-◌, false, length}
use Rattle.utf16_units.specs.Lanes.{PairedTo}
use Rattle.utf16_units.proofs.validate.plain_front.Given as goal

abbrev pub invariant-loop-at : goal.invariant-loop-at
invariant-loop-at g l = PairedTo g.E.Utf16Order.BIG l.raw l.at false

abbrev pub decreases-loop-at : goal.decreases-loop-at
decreases-loop-at g l = length l.raw - l.at
