use Rattle.std.proofs.Common.{◌-◌, length}
use Rattle.utf16_wtf8.specs.FromWtf8.{ReadsWtf8}
use Rattle.utf16_wtf8.proofs.encode.transcode_wtf8.Given as goal

-- what was read so far is WTF-8, and its UTF-16 is written
abbrev pub invariant-loop-after_leading : goal.invariant-loop-after_leading
invariant-loop-after_leading g l = ReadsWtf8 g.E.Utf16Order.BIG l.wtf8 l.to l.read l.written l.after_leading

abbrev pub decreases-loop-after_leading : goal.decreases-loop-after_leading
decreases-loop-after_leading g l = length l.wtf8 - l.read
