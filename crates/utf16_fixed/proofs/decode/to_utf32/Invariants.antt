use Rattle.std.proofs.Common.{◌-◌, length}
use Rattle.utf16_transcode.specs.Transcoded.{Writes}
use Rattle.utf16_fixed.specs.Utf32.{TranscodesToUtf32}
use Rattle.utf16_fixed.proofs.decode.to_utf32.Given as goal

-- what was read so far is written
abbrev pub invariant-loop-done : goal.invariant-loop-done
invariant-loop-done g l = Writes (TranscodesToUtf32 g.E.Utf16Order.BIG) l.raw l.to l.done.read l.done.written

abbrev pub decreases-loop-done : goal.decreases-loop-done
decreases-loop-done g l = length l.raw - l.done.read
