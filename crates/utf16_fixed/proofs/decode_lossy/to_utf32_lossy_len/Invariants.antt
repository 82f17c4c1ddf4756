use Rattle.std.proofs.Common.{◌≡◌, ◌+◌, length}
use Rattle.utf16_units.proofs.FirstChar.{AreBytes}
use Rattle.utf16_units.specs.Split.{lossy_text}
use Rattle.utf16_fixed.proofs.decode_lossy.to_utf32_lossy_len.Given as goal

-- the length so far and the length of the rest add up to the whole length
abbrev pub invariant-loop-error : goal.invariant-loop-error
invariant-loop-error g l =
    (l.len + length (lossy_text g.E.Utf16Order.BIG l.rest) ≡ length (lossy_text g.E.Utf16Order.BIG l.raw))
    × AreBytes l.rest

abbrev pub decreases-loop-error : goal.decreases-loop-error
decreases-loop-error g l = length l.rest
