use Rattle.std.proofs.Common.{length, take, ◌-◌, ◌≤◌}
use Rattle.utf16_units.specs.Encoding.{IsUtf16}
use Rattle.utf16_units.proofs.validate.valid_len_from.Given as goal

-- the bytes before `at` are well formed
abbrev pub invariant-loop-at : goal.invariant-loop-at
invariant-loop-at g l = (l.at ≤ length l.raw) × IsUtf16 g.E.Utf16Order.BIG (take l.at l.raw)

abbrev pub decreases-loop-at : goal.decreases-loop-at
decreases-loop-at g l = length l.raw - l.at
