use Rattle.std.proofs.Common.{◌+◌, ◌-◌, ◌*◌, ◌/◌, ◌≤◌, length}
use Rattle.utf16_transcode.specs.Transcoded.{TranscodesToUtf8, Writes}
use Rattle.utf16_transcode.proofs.decode.write_few_units.Given as goal

-- what was read so far is written, and the rest surely fits
abbrev pub invariant-loop-read : goal.invariant-loop-read
invariant-loop-read g l = record {
  wrote : Writes (TranscodesToUtf8 g.E.Utf16Order.BIG) l.raw l.to l.read l.written;
  space : l.written + (length l.raw - l.read) / 2 * 3 ≤ length l.to;
}

abbrev pub decreases-loop-read : goal.decreases-loop-read
decreases-loop-read g l = length l.raw - l.read
