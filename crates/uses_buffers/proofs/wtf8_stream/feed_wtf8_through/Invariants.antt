use Rattle.std.proofs.Common.{◌≤◌, ◌++◌, length}
use Rattle.std.specs.Vec.{vec_items}
use Rattle.utf16_wtf8.specs.Stream.{IsWtf8Tail, wtf8_pending}
use Rattle.uses_buffers.proofs.Wtf8StreamLemmas.{SoFar}
use Rattle.uses_buffers.proofs.wtf8_stream.feed_wtf8_through.Given as goal

-- the calls so far did what one call does that is given the pending bytes and the chunk
abbrev pub invariant-loop-rest : goal.invariant-loop-rest
invariant-loop-rest g l =
    (4 ≤ length l.buffer)
    × SoFar g.E.Utf16Order.BIG (wtf8_pending l.fn.stream ++ l.chunk) (wtf8_pending l.stream ++ l.rest) (vec_items l.fn.all) (vec_items l.all)
    × (IsWtf8Tail (wtf8_pending l.fn.stream) → IsWtf8Tail (wtf8_pending l.stream))

-- the number of bytes that are left
abbrev pub decreases-loop-rest : goal.decreases-loop-rest
decreases-loop-rest g l = length (wtf8_pending l.stream ++ l.rest)
