use Rattle.std.proofs.Common.{◌-◌, ◌<◌, length}
use Rattle.utf16_to_utf8.specs.Cursor.{Advanced}
use Rattle.utf16_to_utf8.proofs.runs.write_run.Given as goal

abbrev pub invariant-loop-cursor : goal.invariant-loop-cursor
invariant-loop-cursor g l = record {
  advanced : Advanced g.E.Utf16Order.BIG l.kind l.raw l.out l.fn.from l.cursor;
  advances : l.fn.from.at < l.cursor.at;
}

abbrev pub decreases-loop-cursor : goal.decreases-loop-cursor
decreases-loop-cursor g l = length l.raw - l.cursor.at
