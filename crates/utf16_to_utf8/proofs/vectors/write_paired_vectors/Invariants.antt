use Rattle.std.proofs.Common.{◌≡◌, ◌-◌, ◌<◌, length}
use Rattle.utf16_units.specs.Lanes.{PairedTo}
use Rattle.utf16_to_utf8.specs.Cursor.{Reached}
use Rattle.utf16_to_utf8.proofs.vectors.write_paired_vectors.Given as goal

abbrev pub invariant-loop-done : goal.invariant-loop-done
invariant-loop-done g l = record {
  reached : Reached g.E.Utf16Order.BIG l.raw l.out l.done.cursor;
  paired : PairedTo g.E.Utf16Order.BIG l.raw l.done.cursor.at l.done.leading;
  few : length l.raw < 16 → l.done.cursor.at ≡ 0;
}

abbrev pub decreases-loop-done : goal.decreases-loop-done
decreases-loop-done g l = length l.raw - l.done.cursor.at
