use Rattle.std.proofs.Common.{◌≡◌, ◌+◌, ◌-◌, ◌≤◌, drop, false, length, take}
use Rattle.utf16_units.specs.Encoding.{units_of}
use Rattle.utf16_to_utf8.specs.Cursor.{Advanced}
use Rattle.utf16_to_utf8.specs.declared.blocks.Kind.TheVariants.{Basic}
use Rattle.utf16_to_utf8.proofs.runs.write_plain.Given as goal

abbrev pub invariant-loop-run : goal.invariant-loop-run
invariant-loop-run g l = record {
  advanced : Advanced g.E.Utf16Order.BIG Basic l.raw l.out l.fn.from l.run.cursor;
  more : l.run.ended ≡ false → l.run.cursor.at + 64 ≤ length l.raw;
  space : l.run.ended ≡ false → l.run.cursor.end + 128 ≤ length l.out;
  next : l.run.ended ≡ false → l.run.units ≡ units_of g.E.Utf16Order.BIG (take 64 (drop l.run.cursor.at l.raw));
}

abbrev pub decreases-loop-run : goal.decreases-loop-run
decreases-loop-run g l = length l.raw - l.run.cursor.at
