use Rattle.std.proofs.Common.{◌-◌, ◌++◌, length}
use Rattle.utf16_transcode.specs.Transcoded.{DecodesAsTo}
use Rattle.utf16_transcode.proofs.stream.transcode_joined.Given as goal

-- what was read so far is decoded and written
abbrev pub invariant-loop-read : goal.invariant-loop-read
invariant-loop-read g l = DecodesAsTo g.D.LossyDirection.split g.D.LossyDirection.into (l.pending ++ l.piece) l.to l.read l.written

abbrev pub decreases-loop-read : goal.decreases-loop-read
decreases-loop-read g l = length l.pending - l.read
