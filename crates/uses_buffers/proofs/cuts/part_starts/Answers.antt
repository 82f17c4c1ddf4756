use Rattle.std.proofs.Common.{arith}
use Rattle.std.specs.Vec.{vec_items}
use Rattle.uses_buffers.proofs.CutsStarts.{Starts-cuts, Starts-more, Starts-none}
use Rattle.uses_buffers.proofs.cuts.part_starts.Goals as goal

pub loop-index-init : goal.loop-index-init
loop-index-init g c = Starts-none g.E.Utf16Order.BIG c.args.file.now c.args.count (vec_items c.new-starts.result) c.new-starts.ensures.items

pub loop-index-preserved : goal.loop-index-preserved
loop-index-preserved g c =
    Starts-more g.E.Utf16Order.BIG c.args.file.now c.args.count c.loop-index.index (vec_items c.loop-index.starts) (vec_items c.push.new.self) c.loop-index.invariant
    c.loop-index-test.true c.part_start.result c.part_start.ensures c.in_ok-push.ensures.items

pub returns-clause-count : goal.returns-clause-count
returns-clause-count g c = omega (arith, c.loop-index.invariant.long, c.loop-index.invariant.few, c.loop-index-test.false)

pub returns-clause-starts : goal.returns-clause-starts
returns-clause-starts g c k inside = c.loop-index.invariant.each k 0 inside

pub returns-clause-ascend : goal.returns-clause-ascend
returns-clause-ascend g c = c.loop-index.invariant.ascend

pub returns-clause-cuts : goal.returns-clause-cuts
returns-clause-cuts g c = Starts-cuts g.E.Utf16Order.BIG c.args.file.now c.args.count c.loop-index.index (vec_items c.loop-index.starts) c.loop-index.invariant
