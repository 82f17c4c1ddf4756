use Rattle.std.specs.Vec.{vec_items}
use Rattle.uses_buffers.proofs.Utf8Cuts.{IsLastCut-floor}
use Rattle.uses_buffers.proofs.Utf8Ends.{Ends-count, Ends-cuts, Ends-more, Ends-none}
use Rattle.uses_buffers.proofs.utf8_parts.part_ends.Goals as goal

pub loop-at-init : goal.loop-at-init
loop-at-init g c = Ends-none c.args.utf8.now c.args.size (vec_items c.new-ends.result) c.new-ends.ensures.items

pub loop-at-preserved : goal.loop-at-preserved
loop-at-preserved g c =
    Ends-more c.args.utf8.now c.args.size c.loop-at.at (vec_items c.loop-at.ends) c.loop-at.invariant (vec_items c.push.new.self)
    c.loop-at-test.true c.floor_char_boundary.result
    (IsLastCut-floor c.args.utf8.now c.loop-at.at _ c.floor_char_boundary.ensures.boundary c.floor_char_boundary.ensures.bound c.floor_char_boundary.ensures.nearest)
    c.in_ok-push.ensures.items

pub returns-clause-count : goal.returns-clause-count
returns-clause-count g c = Ends-count c.args.utf8.now c.args.size c.loop-at.at (vec_items c.loop-at.ends) c.loop-at.invariant c.loop-at-test.false c.requires.some

pub returns-clause-ends : goal.returns-clause-ends
returns-clause-ends g c k inside = c.loop-at.invariant.each k 0 inside

pub returns-clause-cuts : goal.returns-clause-cuts
returns-clause-cuts g c = Ends-cuts c.args.utf8.now c.args.size c.loop-at.at (vec_items c.loop-at.ends) c.loop-at.invariant
