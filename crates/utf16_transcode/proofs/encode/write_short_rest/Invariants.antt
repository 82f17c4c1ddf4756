use Rattle.std.proofs.Common.{◌-◌, ◌≤◌, length}
use Rattle.utf16_transcode.specs.Transcoded.{Writes}
use Rattle.utf16_transcode.specs.FromUtf8.{TranscodesToUtf16}
use Rattle.utf16_transcode.proofs.encode.write_short_rest.Given as goal

-- what was read so far is written
abbrev pub invariant-loop-read : goal.invariant-loop-read
invariant-loop-read g l = record {
  wrote : Writes (TranscodesToUtf16 g.E.Utf16Order.BIG) l.text l.to l.read l.written;
  more : l.fn.from.read ≤ l.read;
}

abbrev pub decreases-loop-read : goal.decreases-loop-read
decreases-loop-read g l = length l.text - l.read
