use Rattle.std.proofs.Common.{◌-◌, length}
use Rattle.utf16_transcode.specs.Transcoded.{Writes}
use Rattle.utf16_fixed.specs.Utf32.{ShowsInUtf16}
use Rattle.utf16_fixed.proofs.encode_lossy.from_utf32_lossy.Given as goal

-- what was read so far is written
abbrev pub invariant-loop-replacement : goal.invariant-loop-replacement
invariant-loop-replacement g l = Writes (ShowsInUtf16 g.E.Utf16Order.BIG) l.utf32 l.to l.read l.written

abbrev pub decreases-loop-replacement : goal.decreases-loop-replacement
decreases-loop-replacement g l = length l.utf32 - l.read
