use Rattle.std.proofs.Common.{◌≤◌, ◌++◌, length}
use Rattle.std.specs.Vec.{vec_items}
use Rattle.utf16_transcode.specs.Decodes.{DecodesAs}
use Rattle.utf16_transcode.specs.Stream.{stream_pending}
use Rattle.uses_buffers.proofs.small_buffer.feed_through.Given as goal

-- what was written so far is the text of the first of the pending bytes and the chunk
abbrev pub invariant-loop-rest : goal.invariant-loop-rest
invariant-loop-rest g l =
    (4 ≤ length l.buffer)
    × DecodesAs g.D.LossyDirection.split g.D.LossyDirection.into (stream_pending l.fn.stream ++ l.chunk) (stream_pending l.stream ++ l.rest) (vec_items l.fn.all) (vec_items l.all)

-- the number of items that are left
abbrev pub decreases-loop-rest : goal.decreases-loop-rest
decreases-loop-rest g l = length (g.D.LossyDirection.split.items (stream_pending l.stream ++ l.rest))
