use Rattle.std.proofs.Common.{◌≡◌, ◌+◌, ◌-◌, ◌*◌, ◌≤◌}
use Rattle.utf16_transcode.specs.Transcoded.{TranscodesToUtf8, Writes}
use Rattle.utf16_transcode.proofs.decode.write_ascii_from.Given as goal

-- what was read so far is written, and a byte is left for each unit up to the end
abbrev pub invariant-loop-read : goal.invariant-loop-read
invariant-loop-read g l = record {
  wrote : Writes (TranscodesToUtf8 g.E.Utf16Order.BIG) l.raw l.to l.read l.written;
  more : l.initial.read ≤ l.read;
  within : l.read ≤ l.end.read;
  ascii : l.end.read + 2 * l.written ≡ l.read + 2 * l.end.written;
}

abbrev pub decreases-loop-read : goal.decreases-loop-read
decreases-loop-read g l = l.end.read - l.read
