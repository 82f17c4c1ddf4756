use Rattle.std.proofs.Common.{◌≡◌, ◌+◌, sym, ap, ◌∙◌, arith, drop, take}
use Rattle.std.specs.List.{flat_map}
use Rattle.std.specs.Vec.{vec_items}
use Rattle.utf16_transcode.proofs.StreamLemmas.{joined-more}
use Rattle.uses_buffers.specs.FormCalls.{IsCall}
use Rattle.uses_buffers.specs.Forms.{from_wtf8_partial}
use Rattle.uses_buffers.proofs.ChunkLemmas.{certain_of, chunk_step, end_step, found_call, joined_as, kept_none}
use Rattle.uses_buffers.proofs.wtf8_chunks.from_wtf8_chunks_through.Given.{Over}
use Rattle.uses_buffers.proofs.wtf8_chunks.from_wtf8_chunks_through.Goals as goal
use Rattle.uses_buffers.proofs.wtf8_chunks.from_wtf8_chunks_through.Goals.{After-remove_front}

pub loop-chunk-init : goal.loop-chunk-init
loop-chunk-init g c = (omega arith, omega arith, kept_none g.E.Utf16Order.BIG _ _ c.new-utf16.ensures.items c.new-unread.ensures.items)

-- what one more chunk did
step : (g : Over) (c : After-remove_front g)
    → IsCall (from_wtf8_partial g.E.Utf16Order.BIG) (flat_map vec_items (take (c.loop-chunk.chunk-index + 1) c.args.chunks.now)) (vec_items c.extend_from_slice-in-loop-chunk.new.self)
    (c.loop-chunk.invariant.2.at + c.in_ok-part.read) 0 c.in_ok-part.stop
    × (vec_items c.remove_front.new.bytes ≡ drop (c.loop-chunk.invariant.2.at + c.in_ok-part.read) (flat_map vec_items (take (c.loop-chunk.chunk-index + 1) c.args.chunks.now)))
step g c =
    let part = c.in_ok-part in
    let input = c.deref-in-loop-chunk.ensures.value in
    let given = input ∙ joined_as (vec_items c.extend_from_slice.new.self) (vec_items c.loop-chunk.unread) _ _ c.deref.ensures.value c.in_ok-extend_from_slice.ensures.items in
    let grown = joined_as (vec_items c.extend_from_slice-in-loop-chunk.new.self) (vec_items c.loop-chunk.utf16) _ _ c.deref-in-loop-chunk-2.ensures.value c.in_ok-extend_from_slice-2.ensures.items in
    let left = c.remove_front.ensures ∙ ap (drop part.read) (sym input) in
    chunk_step g.E.Utf16Order.BIG _ _ (vec_items c.loop-chunk.unread) (vec_items part.part) c.deref-in-loop-chunk.result.now _ _ _ c.loop-chunk.invariant.2 part.read 0 part.stop grown left
    (vec_items c.chunk-item.result) given
    (joined-more vec_items c.args.chunks.now c.loop-chunk.chunk-index c.chunk-item.result c.loop-chunk-test.true c.chunk-item.is)
    (record { within = part.ensures.within; writes = part.ensures.text; stops = part.ensures.stop })

pub loop-chunk-preserved : goal.loop-chunk-preserved
loop-chunk-preserved g c =
    let stepped = step g (goal.at.loop-chunk-preserved g c).After-remove_front in (
      omega arith,
      omega (arith, c.loop-chunk.invariant.1),
      record {
        at = c.loop-chunk.invariant.2.at + c.in_ok-part.read;
        left = 0;
        stop = c.in_ok-part.stop;
        call = stepped.0;
        certain = certain_of c.in_ok-part.stop c.in_ok-part.ensures.whole c.in_default.not-IllFormed;
        rest = stepped.1;
      },
    )

pub returns-in-IllFormed-clause-converts : goal.returns-in-IllFormed-clause-converts
returns-in-IllFormed-clause-converts g c =
    let stepped = step g (goal.at.returns-in-IllFormed-clause-converts g c).After-remove_front in
    let called = found_call g.E.Utf16Order.BIG _ _ _ 0 c.in-IllFormed.field-0 c.in_ok-part.stop c.in-IllFormed.is stepped.0 in
    rw c.loop-chunk.invariant.1 (c.loop-chunk.invariant.2.at + c.in_ok-part.read, called, stepped.1)

pub returns-clause-converts : goal.returns-clause-converts
returns-clause-converts g c =
    let part = c.in_ok-part-2 in
    let input = c.deref-2.ensures.value in
    let grown = joined_as (vec_items c.extend_from_slice-2.new.self) (vec_items c.loop-chunk.utf16) _ _ c.deref-3.ensures.value c.in_ok-extend_from_slice-3.ensures.items in
    let ended = end_step g.E.Utf16Order.BIG _ _ (vec_items c.loop-chunk.unread) (vec_items part.part) c.deref-2.result.now _ _ _ c.loop-chunk.invariant.2 part.read 0 part.stop grown
    (c.remove_front-2.ensures ∙ ap (drop part.read) (sym input)) input (ap (λ k. flat_map vec_items (take k c.args.chunks.now)) c.loop-chunk.invariant.1)
    (record { within = part.ensures.within; writes = part.ensures.text; stops = part.ensures.stop }) in
    (c.loop-chunk.invariant.2.at + part.read, ended.0, ended.1)
