use Rattle.std.proofs.Common.{◌-◌, ◌≤◌, length, vec_capacity}
use Rattle.utf16_program.proofs.ScanLemmas.{Scanned}
use Rattle.utf16_program.proofs.scan.scan_in.Given as goal

-- what was found so far
abbrev pub invariant-loop-unit : goal.invariant-loop-unit
invariant-loop-unit g l =
    Scanned g.E.Utf16Order.BIG l.offset l.bytes l.fn.lines.items l.lines.items l.found.taken l.found.chars l.found.unpaired
    × (vec_capacity l.fn.lines ≤ vec_capacity l.lines)

abbrev pub decreases-loop-unit : goal.decreases-loop-unit
decreases-loop-unit g l = length l.bytes - l.found.taken
