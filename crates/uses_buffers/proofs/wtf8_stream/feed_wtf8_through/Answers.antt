use Rattle.std.proofs.Common.{◌≡◌, ◌≤◌, ◌++◌, arith, length, refl, rules, take}
use Rattle.std.specs.Vec.{vec_items}
use Rattle.uses_buffers.proofs.Wtf8StreamLemmas.{so_far_more, so_far_none, so_far_smaller, takes}
use Rattle.uses_buffers.proofs.wtf8_stream.feed_wtf8_through.Goals as goal

pub loop-rest-init : goal.loop-rest-init
loop-rest-init g c = (c.requires, so_far_none g.E.Utf16Order.BIG _ _, λ tail. tail)

pub loop-rest-preserved : goal.loop-rest-preserved
loop-rest-preserved g c =
    let call = c.feed-progress in
    let grown : vec_items c.extend_from_slice.new.self ≡ vec_items c.loop-rest.all ++ take call.result.written call.new.to = search rules in
    let room : 4 ≤ length call.new.to = omega arith in (
      room,
      so_far_more g.E.Utf16Order.BIG _ _ _ _ _ _ _ _ _ _ c.loop-rest.invariant.1 call.ensures.feeds grown _ call.result.stop c.in-NoSpace.is call.ensures.stop,
      λ tail. call.ensures.tail (c.loop-rest.invariant.2 tail),
    )

pub loop-rest-smaller : goal.loop-rest-smaller
loop-rest-smaller g c =
    let call = c.feed-progress in
    let grown : vec_items c.extend_from_slice.new.self ≡ vec_items c.loop-rest.all ++ take call.result.written call.new.to = search rules in
    let room : 4 ≤ length call.new.to = omega arith in
    so_far_smaller g.E.Utf16Order.BIG _ _ _ _ _ _ _ _ _ _ c.loop-rest.invariant.1 call.ensures.feeds grown room (call.ensures.filled c.in-NoSpace.is)

pub returns-in_default : goal.returns-in_default
returns-in_default g c =
    let call = c.feed-progress in
    let grown : vec_items c.extend_from_slice.new.self ≡ vec_items c.loop-rest.all ++ take call.result.written call.new.to = search rules in
    record {
      takes = takes g.E.Utf16Order.BIG _ _ _ _ _ _ _ _ _ _ c.loop-rest.invariant.1 call.ensures.feeds grown _ call.result.stop c.in_default.not-NoSpace call.ensures.stop _ _ refl;
      tail = λ tail. call.ensures.tail (c.loop-rest.invariant.2 tail);
    }
