use Rattle.std.proofs.Common.{◌≡◌, ◌≤◌, ◌++◌, ap, ◌∙◌, arith, length, subst, sym, take, take_all}
use Rattle.std.specs.List.{flat_map}
use Rattle.std.specs.Vec.{vec_items}
use Rattle.utf16_transcode.specs.StreamSplit.{decided}
use Rattle.utf16_transcode.specs.Stream.{stream_pending}
use Rattle.utf16_transcode.proofs.StreamLemmas.{joined-more}
use Rattle.uses_buffers.proofs.CallLemmas.{chunk_tail, chunk_text}
use Rattle.uses_buffers.proofs.small_buffer.feed_chunks.Goals as goal

pub loop-chunk-preserved : goal.loop-chunk-preserved
loop-chunk-preserved g c =
    let parts = g.D.LossyDirection.split in
    let into = g.D.LossyDirection.into in
    let front = flat_map vec_items (take c.loop-chunk.chunk-index c.args.chunks.now) in
    let more = joined-more vec_items c.args.chunks.now c.loop-chunk.chunk-index c.chunk-item.result c.loop-chunk-test.true c.chunk-item.is in
    let same = c.deref.ensures.value in
    let room : 4 ≤ length c.feed_through.new.buffer = omega arith in
    let all = vec_items c.feed_through.new.all in
    let left = stream_pending c.feed_through.new.stream in
    let pending = stream_pending c.loop-chunk.stream in
    let text : all ≡ flat_map into (decided parts (front ++ vec_items c.chunk-item.result)) =
    chunk_text parts into c.lossy_laws.ensures.chunks front (vec_items c.chunk-item.result) pending (vec_items c.loop-chunk.all) all left c.loop-chunk.invariant.1 c.loop-chunk.invariant.2
    (subst (λ p. all ≡ vec_items c.loop-chunk.all ++ flat_map into (decided parts (pending ++ p))) same c.in_ok-feed_through.ensures.text) in
    let tail : left ≡ parts.tail (front ++ vec_items c.chunk-item.result) =
    chunk_tail parts into c.lossy_laws.ensures.chunks front (vec_items c.chunk-item.result) pending (vec_items c.loop-chunk.all) all left c.loop-chunk.invariant.1 c.loop-chunk.invariant.2
    (subst (λ p. left ≡ parts.tail (pending ++ p)) same c.in_ok-feed_through.ensures.pending) in (
      room,
      subst (λ b. all ≡ flat_map into (decided parts b)) (sym more) text,
      subst (λ b. left ≡ parts.tail b) (sym more) tail,
    )

pub returns : goal.returns
returns g c =
    let parts = g.D.LossyDirection.split in
    let chunks = take_all c.loop-chunk.chunk-index c.args.chunks.now c.loop-chunk-test.false in
    record {
      text = c.loop-chunk.invariant.1 ∙ ap (λ p. flat_map g.D.LossyDirection.into (decided parts (flat_map vec_items p))) chunks;
      pending = c.loop-chunk.invariant.2 ∙ ap (λ p. parts.tail (flat_map vec_items p)) chunks;
    }
