use Rattle.std.proofs.Common.{◌≡◌, ◌+◌, encode_utf8_all, length}
use Rattle.utf16_units.proofs.FirstChar.{AreBytes}
use Rattle.utf16_units.specs.Split.{lossy_text}
use Rattle.utf16_transcode.proofs.sizes.to_utf8_lossy_len.Given as goal

-- the length so far and the length of the rest add up to the whole length
abbrev pub invariant-loop-error : goal.invariant-loop-error
invariant-loop-error g l =
    (l.size + length (encode_utf8_all (lossy_text g.E.Utf16Order.BIG l.rest)) ≡ length (encode_utf8_all (lossy_text g.E.Utf16Order.BIG l.raw)))
    × AreBytes l.rest

abbrev pub decreases-loop-error : goal.decreases-loop-error
decreases-loop-error g l = length l.rest
