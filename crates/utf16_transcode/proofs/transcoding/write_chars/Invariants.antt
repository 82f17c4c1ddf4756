use Rattle.std.proofs.Common.{◌-◌, length}
use Rattle.utf16_transcode.specs.Transcoded.{SameText, WritesAt}
use Rattle.utf16_transcode.proofs.transcoding.write_chars.Given as goal

-- the characters so far are written
abbrev pub invariant-loop-read : goal.invariant-loop-read
invariant-loop-read g l = WritesAt (SameText g.D.Direction.IsValid g.D.Direction.other) l.rest l.fn.to l.to l.fn.at l.read l.written

abbrev pub decreases-loop-read : goal.decreases-loop-read
decreases-loop-read g l = length l.rest - l.read
