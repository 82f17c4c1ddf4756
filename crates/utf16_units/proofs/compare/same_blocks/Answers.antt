use Rattle.std.proofs.Common.{◌*◌, ◌/◌, ◌≤◌, arith, subst}
use lib.Count.{count_trailing_zeros}
use Rattle.utf16_units.proofs.SameLemmas.{SameTo-block}
use Rattle.utf16_units.proofs.compare.same_blocks.Goals as goal

pub returns-then-same : goal.returns-then-same
returns-then-same g c =
    SameTo-block c.args.first.now c.args.second.now c.loop-at.at g.row.N (omega arith) (omega arith) (omega arith) c.loop-at.invariant _ (omega arith) (omega arith)
    (subst (λ bits. count_trailing_zeros 64 c.differing.result / 2 * 2 ≤ count_trailing_zeros 64 bits) c.differing.ensures (omega arith))

pub loop-at-preserved : goal.loop-at-preserved
loop-at-preserved g c =
    SameTo-block c.args.first.now c.args.second.now c.loop-at.at g.row.N (omega arith) (omega arith) (omega arith) c.loop-at.invariant g.row.N c.requires.lanes.2 (omega arith)
    (subst (λ bits. g.row.N ≤ count_trailing_zeros 64 bits) c.differing.ensures (omega arith))
