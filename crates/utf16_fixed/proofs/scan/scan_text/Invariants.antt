use Rattle.std.proofs.Common.{◌-◌, length}
use Rattle.utf16_units.specs.Lanes.{PairedTo}
use Rattle.utf16_fixed.proofs.GreatestLemmas.{ScannedTo}
use Rattle.utf16_fixed.proofs.scan.scan_text.Given as goal

abbrev pub invariant-loop-at : goal.invariant-loop-at
invariant-loop-at g l = record {
  paired : PairedTo g.E.Utf16Order.BIG l.raw l.at l.leading;
  scanned : ScannedTo g.E.Utf16Order.BIG l.raw l.at l.found.trailing l.found.greatest;
}

abbrev pub decreases-loop-at : goal.decreases-loop-at
decreases-loop-at g l = length l.raw - l.at
