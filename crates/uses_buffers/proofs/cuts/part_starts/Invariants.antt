use Rattle.std.proofs.Common.{◌-◌}
use Rattle.std.specs.Vec.{vec_items}
use Rattle.uses_buffers.proofs.CutsStarts.{Starts}
use Rattle.uses_buffers.proofs.cuts.part_starts.Given as goal

abbrev pub invariant-loop-index : goal.invariant-loop-index
invariant-loop-index g l = Starts g.E.Utf16Order.BIG l.file l.count l.index (vec_items l.starts)

abbrev pub decreases-loop-index : goal.decreases-loop-index
decreases-loop-index g l = l.count - l.index
