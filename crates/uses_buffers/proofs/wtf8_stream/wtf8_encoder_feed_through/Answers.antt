use Rattle.std.proofs.Common.{◌≡◌, ◌-◌, ◌+◌, ◌++◌, sym, ap, ◌∙◌, arith, drop, length, refl, rules, take, take_all, take-append-drop}
use Rattle.std.proofs.lemmas.List.Concat.{flat_map-append}
use Rattle.std.specs.List.{flat_map}
use Rattle.std.specs.Vec.{vec_items}
use Rattle.utf16_transcode.proofs.StreamLemmas.{joined-more}
use Rattle.utf16_wtf8.specs.Stream.{wtf8_pending}
use Rattle.uses_buffers.proofs.ChunkLemmas.{end_step, kept_none}
use Rattle.uses_buffers.proofs.Wtf8StreamLemmas.{chunk_found, chunk_taken}
use Rattle.uses_buffers.proofs.wtf8_stream.wtf8_encoder_feed_through.Goals as goal

pub loop-chunk-init : goal.loop-chunk-init
loop-chunk-init g c = (omega arith, kept_none g.E.Utf16Order.BIG _ _ c.new-all.ensures.items c.new-stream.ensures.pending, c.new-stream.ensures.tail)

pub loop-chunk-preserved : goal.loop-chunk-preserved
loop-chunk-preserved g c =
    let fed = c.in_ok-stop in
    let joined = flat_map vec_items (take c.loop-chunk.chunk-index c.args.chunks.now) in
    let more = joined-more vec_items c.args.chunks.now c.loop-chunk.chunk-index c.chunk-item.result c.loop-chunk-test.true c.chunk-item.is in (
      omega arith,
      chunk_taken g.E.Utf16Order.BIG joined _ _ _ _ _ _ fed.stop c.loop-chunk.invariant.1 fed.ensures.takes (more ∙ ap (λ b. joined ++ b) (sym c.deref.ensures.value)) c.in-Done.is,
      fed.ensures.tail c.loop-chunk.invariant.2,
    )

pub returns-in_default : goal.returns-in_default
returns-in_default g c =
    let fed = c.in_ok-stop in
    let chunks = c.args.chunks.now in
    let next = c.loop-chunk.chunk-index + 1 in
    let joined = flat_map vec_items (take c.loop-chunk.chunk-index chunks) in
    let more = joined-more vec_items chunks c.loop-chunk.chunk-index c.chunk-item.result c.loop-chunk-test.true c.chunk-item.is in
    chunk_found g.E.Utf16Order.BIG joined _ _ _ _ _ _ fed.stop c.loop-chunk.invariant.1 fed.ensures.takes (more ∙ ap (λ b. joined ++ b) (sym c.deref.ensures.value)) c.in_default.not-Done
    (flat_map vec_items (drop next chunks)) (flat_map vec_items chunks)
    (ap (flat_map vec_items) (sym (take-append-drop next chunks)) ∙ flat_map-append vec_items (take next chunks) (drop next chunks))

pub returns : goal.returns
returns g c =
    let call = c.finish-end in
    let kept = c.loop-chunk.invariant.1 in
    let chunks = c.args.chunks.now in
    let pending = wtf8_pending c.loop-chunk.stream in
    let room = length call.new.to - call.result.written in
    let grown : vec_items c.extend_from_slice.new.self ≡ vec_items c.loop-chunk.all ++ take call.result.written call.new.to = search rules in
    let ended = end_step g.E.Utf16Order.BIG _ (vec_items c.loop-chunk.all) pending (take call.result.written call.new.to) pending (flat_map vec_items chunks) _ (drop call.result.read pending) kept
    call.result.read room call.result.stop grown refl refl (sym (ap (flat_map vec_items) (take_all c.loop-chunk.chunk-index chunks c.loop-chunk-test.false)))
    (record { within = call.ensures.wrote.within; writes = call.ensures.wrote.gives; stops = call.ensures.stop }) in
    (kept.at + call.result.read, record { left = room; call = ended.0; ends = call.ensures.succeeds c.loop-chunk.invariant.2 (omega arith) })
