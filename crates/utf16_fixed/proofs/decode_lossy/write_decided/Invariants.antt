use Rattle.std.proofs.Common.{◌-◌, length}
use Rattle.utf16_fixed.specs.Stops32.{DecodesToUtf32}
use Rattle.utf16_fixed.proofs.decode_lossy.write_decided.Given as goal

-- what was read so far is decoded and written
abbrev pub invariant-loop-len : goal.invariant-loop-len
invariant-loop-len g l = DecodesToUtf32 g.E.Utf16Order.BIG l.raw l.to l.read l.written

abbrev pub decreases-loop-len : goal.decreases-loop-len
decreases-loop-len g l = length l.raw - l.read
