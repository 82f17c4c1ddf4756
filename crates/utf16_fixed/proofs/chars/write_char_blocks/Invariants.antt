use Rattle.std.proofs.Common.{◌-◌, ◌≤◌, length}
use Rattle.utf16_transcode.specs.Transcoded.{Writes}
use Rattle.utf16_fixed.specs.Utf32.{TranscodesFromUtf32}
use Rattle.utf16_fixed.proofs.chars.write_char_blocks.Given as goal

-- what was read so far is written
abbrev pub invariant-loop-done : goal.invariant-loop-done
invariant-loop-done g l = record {
  wrote : Writes (TranscodesFromUtf32 g.E.Utf16Order.BIG) l.utf32 l.to l.done.read l.done.written;
  after : l.fn.from.read ≤ l.done.read;
  plain : l.plain ≤ 4;
}

abbrev pub decreases-loop-done : goal.decreases-loop-done
decreases-loop-done g l = length l.utf32 - l.done.read
