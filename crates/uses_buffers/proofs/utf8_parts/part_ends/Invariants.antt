use Rattle.std.proofs.Common.{◌-◌, length}
use Rattle.std.specs.Vec.{vec_items}
use Rattle.uses_buffers.proofs.Utf8Ends.{Ends}
use Rattle.uses_buffers.proofs.utf8_parts.part_ends.Given as goal

abbrev pub invariant-loop-at : goal.invariant-loop-at
invariant-loop-at g l = Ends l.utf8 l.size l.at (vec_items l.ends)

abbrev pub decreases-loop-at : goal.decreases-loop-at
decreases-loop-at g l = length l.utf8 - l.at
