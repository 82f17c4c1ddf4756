use Rattle.std.proofs.Common.{◌≡◌, ◌-◌, ◌≤◌, ◌++◌, ◌∙◌, arith, length, refl, rules, sym, take, true≢false}
use Rattle.std.specs.Vec.{vec_items}
use Rattle.uses_buffers.proofs.LoopLemmas.{fewer, next, stopped}
use Rattle.uses_buffers.proofs.buffer_call.call_through.Goals as goal

pub loop-all-preserved : goal.loop-all-preserved
loop-all-preserved g c =
    let conversion = g.C.BufferCall.conversion in
    let call = c.call-progress in
    let room : g.C.BufferCall.least ≤ length call.new.to = omega arith in
    let grown : vec_items c.extend_from_slice.new.self ≡ vec_items c.loop-all.all ++ take call.result.written call.new.to = search rules in
    let all = next conversion c.laws.ensures.joined c.args.input.now _ call.new.to _ c.loop-all.at call.result.read call.result.written _ call.result.stop c.loop-all.invariant.2 call.ensures.call grown in
    (room, all.within, stopped conversion _ _ _ _ _ (c.if-not-is_no_space.ensures.0 refl ∙ sym c.laws.ensures.no_space) all)

pub loop-all-smaller : goal.loop-all-smaller
loop-all-smaller g c =
    let call = c.call-progress in
    let room : g.C.BufferCall.least ≤ length call.new.to = omega arith in
    fewer g.C.BufferCall.conversion g.C.BufferCall.least c.laws.ensures.short c.laws.ensures.nothing c.args.input.now call.new.to c.loop-all.at call.result.read call.result.written call.result.stop room
    call.ensures.fits (c.if-not-is_no_space.ensures.0 refl ∙ sym c.laws.ensures.no_space) call.ensures.call

pub returns-then-not-is_no_space : goal.returns-then-not-is_no_space
returns-then-not-is_no_space g c =
    let conversion = g.C.BufferCall.conversion in
    let call = c.call-progress in
    let grown : vec_items c.extend_from_slice.new.self ≡ vec_items c.loop-all.all ++ take call.result.written call.new.to = search rules in
    record {
      left = length call.new.to - call.result.written;
      call = next conversion c.laws.ensures.joined c.args.input.now _ call.new.to _ c.loop-all.at call.result.read call.result.written _ call.result.stop c.loop-all.invariant.2 call.ensures.call grown;
      ends = λ is. true≢false (sym (c.if-not-is_no_space.ensures.1 (is ∙ c.laws.ensures.no_space)));
    }
