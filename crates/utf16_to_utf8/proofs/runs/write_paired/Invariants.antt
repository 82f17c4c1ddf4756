use Rattle.std.proofs.Common.{◌-◌, length}
use Rattle.utf16_units.specs.Lanes.{PairedTo}
use Rattle.utf16_to_utf8.specs.Cursor.{Reached}
use Rattle.utf16_to_utf8.proofs.runs.write_paired.Given as goal

abbrev pub invariant-loop-cursor : goal.invariant-loop-cursor
invariant-loop-cursor g l = record {
  reached : Reached g.E.Utf16Order.BIG l.raw l.out l.cursor;
  paired : PairedTo g.E.Utf16Order.BIG l.raw l.cursor.at l.leading;
}

abbrev pub decreases-loop-cursor : goal.decreases-loop-cursor
decreases-loop-cursor g l = length l.raw - l.cursor.at
