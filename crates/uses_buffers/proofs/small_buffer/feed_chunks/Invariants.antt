use Rattle.std.proofs.Common.{◌≡◌, ◌≤◌, length, take}
use Rattle.std.specs.List.{flat_map}
use Rattle.std.specs.Vec.{vec_items}
use Rattle.utf16_transcode.specs.StreamSplit.{decided}
use Rattle.utf16_transcode.specs.Stream.{stream_pending}
use Rattle.uses_buffers.proofs.small_buffer.feed_chunks.Given as goal

-- the text so far is what is certain of the chunks so far, and their tail is pending
abbrev pub invariant-loop-chunk : goal.invariant-loop-chunk
invariant-loop-chunk g l =
    let parts = g.D.LossyDirection.split in
    let front = flat_map vec_items (take l.chunk-index l.chunks) in
    (4 ≤ length l.buffer) × (vec_items l.all ≡ flat_map g.D.LossyDirection.into (decided parts front)) × (stream_pending l.stream ≡ parts.tail front)
