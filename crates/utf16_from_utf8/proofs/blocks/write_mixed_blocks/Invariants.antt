use Rattle.std.proofs.Common.{◌-◌, length}
use Rattle.utf16_from_utf8.specs.Written.{IsWritten}
use Rattle.utf16_from_utf8.proofs.blocks.write_mixed_blocks.Given as goal

abbrev pub invariant-loop-cursor : goal.invariant-loop-cursor
invariant-loop-cursor g l = IsWritten g.E.Utf16Order.BIG l.bytes l.out l.cursor.read l.cursor.written

abbrev pub decreases-loop-cursor : goal.decreases-loop-cursor
decreases-loop-cursor g l = length l.bytes - l.cursor.read
