use Rattle.std.proofs.Common.{◌≡◌, ◌-◌, length, true}
use Rattle.utf16_to_utf8.specs.Cursor.{Advanced}
use Rattle.utf16_to_utf8.specs.declared.blocks.Kind.TheVariants.{Ascii}
use Rattle.utf16_to_utf8.proofs.runs.write_ascii_run.Given as goal

abbrev pub invariant-loop-run : goal.invariant-loop-run
invariant-loop-run g l = record {
  advanced : Advanced g.E.Utf16Order.BIG Ascii l.raw l.out l.fn.from l.run.cursor;
  ended : l.run.ended ≡ true;
}

abbrev pub decreases-loop-run : goal.decreases-loop-run
decreases-loop-run g l = length l.raw - l.run.cursor.at
