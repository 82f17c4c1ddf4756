use Rattle.std.proofs.Common.{◌≡◌, ◌+◌, ◌≤◌, length}
use Rattle.utf16_units.proofs.FirstChar.{AreBytes}
use Rattle.utf16_transcode.specs.Replaced.{ill_formed_count}
use Rattle.utf16_transcode.proofs.counts.to_utf8_replacements.Given as goal

-- those so far and those of the rest add up to all, and each so far took a byte
abbrev pub invariant-loop-error : goal.invariant-loop-error
invariant-loop-error g l =
    (l.count + ill_formed_count g.E.Utf16Order.BIG l.rest ≡ ill_formed_count g.E.Utf16Order.BIG l.raw)
    × (l.count + length l.rest ≤ length l.raw) × AreBytes l.rest

abbrev pub decreases-loop-error : goal.decreases-loop-error
decreases-loop-error g l = length l.rest
