use Rattle.std.proofs.Common.{◌-◌, length}
use Rattle.utf16_transcode.specs.Transcoded.{SameText, Writes}
use Rattle.utf16_transcode.proofs.transcoding.transcode_many.Given as goal

-- what was read so far is written
abbrev pub invariant-loop-read : goal.invariant-loop-read
invariant-loop-read g l = Writes (SameText g.D.Direction.IsValid g.D.Direction.other) l.input l.to l.read l.written

abbrev pub decreases-loop-read : goal.decreases-loop-read
decreases-loop-read g l = length l.input - l.read
