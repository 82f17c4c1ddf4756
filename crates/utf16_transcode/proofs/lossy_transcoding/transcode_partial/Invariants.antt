use Rattle.std.proofs.Common.{◌-◌, length}
use Rattle.utf16_transcode.specs.Transcoded.{DecodesAsTo}
use Rattle.utf16_transcode.proofs.lossy_transcoding.transcode_partial.Given as goal

-- what was read so far is decoded and written
abbrev pub invariant-loop-len : goal.invariant-loop-len
invariant-loop-len g l = DecodesAsTo g.D.LossyDirection.split g.D.LossyDirection.into l.input l.to l.read l.written

abbrev pub decreases-loop-len : goal.decreases-loop-len
decreases-loop-len g l = length l.input - l.read
