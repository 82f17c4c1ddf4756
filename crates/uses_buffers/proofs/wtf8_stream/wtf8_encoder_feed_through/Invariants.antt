use Rattle.std.proofs.Common.{◌≤◌, length, take}
use Rattle.std.specs.List.{flat_map}
use Rattle.std.specs.Vec.{vec_items}
use Rattle.utf16_wtf8.specs.Stream.{IsWtf8Tail, wtf8_pending}
use Rattle.uses_buffers.proofs.ChunkLemmas.{Kept}
use Rattle.uses_buffers.proofs.wtf8_stream.wtf8_encoder_feed_through.Given as goal

-- the chunks so far did what one call does
abbrev pub invariant-loop-chunk : goal.invariant-loop-chunk
invariant-loop-chunk g l =
    (4 ≤ length l.buffer)
    × Kept g.E.Utf16Order.BIG (flat_map vec_items (take l.chunk-index l.chunks)) (vec_items l.all) (wtf8_pending l.stream)
    × IsWtf8Tail (wtf8_pending l.stream)
