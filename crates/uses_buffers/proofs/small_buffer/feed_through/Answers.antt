use Rattle.std.proofs.Common.{◌≡◌, ◌≤◌, ◌++◌, arith, length, rules, take}
use Rattle.std.specs.Vec.{vec_items}
use Rattle.uses_buffers.proofs.CallLemmas.{feed_end, feed_more, feed_smaller}
use Rattle.uses_buffers.proofs.small_buffer.feed_through.Goals as goal

pub loop-rest-preserved : goal.loop-rest-preserved
loop-rest-preserved g c =
    let call = c.feed-progress in
    let grown : vec_items c.extend_from_slice.new.self ≡ vec_items c.loop-rest.all ++ take call.result.written call.new.to = search rules in
    let room : 4 ≤ length call.new.to = omega arith in
    (room, feed_more g.D.LossyDirection.split _ c.lossy_laws.ensures.chunks _ _ _ _ _ _ _ _ _ _ c.loop-rest.invariant.1 call.ensures.feeds grown)

pub loop-rest-smaller : goal.loop-rest-smaller
loop-rest-smaller g c =
    let call = c.feed-progress in
    let grown : vec_items c.extend_from_slice.new.self ≡ vec_items c.loop-rest.all ++ take call.result.written call.new.to = search rules in
    let room : 4 ≤ length call.new.to = omega arith in
    feed_smaller g.D.LossyDirection.split _ c.lossy_laws.ensures.chunks _ _ _ _ _ _ _ _ _ _ c.loop-rest.invariant.1 call.ensures.feeds grown room (call.ensures.filled c.in-NoSpace.is)

pub returns-in_default : goal.returns-in_default
returns-in_default g c =
    let call = c.feed-progress in
    let grown : vec_items c.extend_from_slice.new.self ≡ vec_items c.loop-rest.all ++ take call.result.written call.new.to = search rules in
    let both = feed_end g.D.LossyDirection.split _ c.lossy_laws.ensures.chunks _ _ _ _ _ _ _ _ _ _ c.loop-rest.invariant.1 call.ensures.feeds grown _ call.result.stop c.in_default.not-NoSpace call.ensures.stop in
    record { text = both.0; pending = both.1 }
