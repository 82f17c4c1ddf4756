use Rattle.std.proofs.Common.{◌-◌, length}
use Rattle.utf16_transcode.specs.Transcoded.{DecodesTo}
use Rattle.utf16_transcode.proofs.ascii.write_lossy_ascii_blocks.Given as goal

-- what was read so far is decoded and written
abbrev pub invariant-loop-read : goal.invariant-loop-read
invariant-loop-read g l = DecodesTo g.E.Utf16Order.BIG l.raw l.to l.read l.written

abbrev pub decreases-loop-read : goal.decreases-loop-read
decreases-loop-read g l = length l.raw - l.read
