use Rattle.std.proofs.Common.{◌≡◌, length}
use Rattle.std.specs.Cmp.Lexicographic.{slice_cmp}
use Rattle.std.specs.Ordering.{nat_cmp}
use Rattle.utf16_units.specs.Split.{lossy_text}
use Rattle.utf16_bytes.proofs.order.compare_chars.Given as goal

-- the rests compare as the texts do
abbrev pub invariant-loop-c : goal.invariant-loop-c
invariant-loop-c g l =
    slice_cmp nat_cmp (lossy_text g.E.Utf16Order.BIG l.fn.first) (lossy_text g.F.Utf16Order.BIG l.fn.second)
    ≡ slice_cmp nat_cmp (lossy_text g.E.Utf16Order.BIG l.rest) (lossy_text g.F.Utf16Order.BIG l.other)

abbrev pub decreases-loop-c : goal.decreases-loop-c
decreases-loop-c g l = length l.rest
