use Rattle.std.proofs.Common.{◌-◌, ◌≤◌, length}
use Rattle.std.specs.Vec.{vec_items}
use Rattle.uses_buffers.proofs.LoopLemmas.{Before}
use Rattle.uses_buffers.proofs.buffer_call.call_through.Given as goal

-- the calls so far did what one call does
abbrev pub invariant-loop-all : goal.invariant-loop-all
invariant-loop-all g l = (g.C.BufferCall.least ≤ length l.buffer) × (l.at ≤ length l.input) × Before g.C.BufferCall.conversion l.input (vec_items l.all) l.at

abbrev pub decreases-loop-all : goal.decreases-loop-all
decreases-loop-all g l = length l.input - l.at
