use Rattle.std.proofs.Common.{◌-◌, length}
use Rattle.utf16_transcode.specs.Utf8Stream.{DecodesUtf8To}
use Rattle.utf16_transcode.proofs.encode_lossy.write_after_ill_formed.Given as goal

-- what was read so far is decoded and written
abbrev pub invariant-loop-read : goal.invariant-loop-read
invariant-loop-read g l = DecodesUtf8To g.E.Utf16Order.BIG l.text l.to l.read l.written

abbrev pub decreases-loop-read : goal.decreases-loop-read
decreases-loop-read g l = length l.text - l.read
