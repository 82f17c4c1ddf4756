use Rattle.std.proofs.Common.{◌≡◌, ◌%◌, ◌+◌, ◌-◌, length}
use Rattle.utf16_units.specs.Boundary.{IsAbsentBefore}
use Rattle.utf16string.specs.WStr.{wstr_bytes, wstr_text}
use Rattle.uses_strings.proofs.searches.first_place.Given as goal

-- the part does not occur before an even offset
abbrev pub invariant-loop-at : goal.invariant-loop-at
invariant-loop-at g l = (l.at % 2 ≡ 0) × IsAbsentBefore (wstr_text l.text) l.at (wstr_text l.part)

abbrev pub decreases-loop-at : goal.decreases-loop-at
decreases-loop-at g l = length (wstr_bytes l.text) + 1 - l.at
