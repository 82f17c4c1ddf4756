use Rattle.std.proofs.Common.{◌≡◌, ◌+◌, ◌^◌, ◌<◌, ◌≤◌, true, length, drop}
use Rattle.std.specs.Fmt.{digits, digits_onto}
use Rattle.utf16_program.proofs.lines.hex.Given as goal

-- the digits that are left come before those that are written
abbrev pub invariant-loop-left : goal.invariant-loop-left
invariant-loop-left l = (0 < l.at) × (l.at ≤ 16) × (length l.buffer ≡ 16) × (l.left < 16 ^ l.at)
    × (digits_onto (48 + l.at) 16 true l.left (drop l.at l.buffer) ≡ digits 16 true l.number)

abbrev pub decreases-loop-left : goal.decreases-loop-left
decreases-loop-left l = l.at
