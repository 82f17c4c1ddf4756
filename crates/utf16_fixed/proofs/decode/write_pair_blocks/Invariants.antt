use Rattle.std.proofs.Common.{◌≤◌, ◌-◌, length}
use Rattle.utf16_transcode.specs.Transcoded.{Writes}
use Rattle.utf16_fixed.specs.Utf32.{TranscodesToUtf32}
use Rattle.utf16_fixed.proofs.decode.write_pair_blocks.Given as goal

-- what was read so far is written
abbrev pub invariant-loop-read : goal.invariant-loop-read
invariant-loop-read g l = record {
  wrote : Writes (TranscodesToUtf32 g.E.Utf16Order.BIG) l.raw l.to l.read l.written;
  after : l.fn.from.read ≤ l.read;
}

abbrev pub decreases-loop-read : goal.decreases-loop-read
decreases-loop-read g l = length l.raw - l.read
