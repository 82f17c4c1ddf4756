use Rattle.std.proofs.Common.{◌-◌, ◌≤◌, length}
use Rattle.utf16_wtf8.proofs.FromLenLemmas.{Counts}
use Rattle.utf16_wtf8.proofs.sizes.from_wtf8_len.Given as goal

-- what was read so far is WTF-8, and its UTF-16 has this length
abbrev pub invariant-loop-after_leading : goal.invariant-loop-after_leading
invariant-loop-after_leading l = (l.read ≤ length l.wtf8) × Counts l.wtf8 l.read l.len l.after_leading

abbrev pub decreases-loop-after_leading : goal.decreases-loop-after_leading
decreases-loop-after_leading l = length l.wtf8 - l.read
