use Rattle.std.proofs.Common.{◌+◌, arith, subst}
use Rattle.std.proofs.lemmas.Nat.{le_or_l, le_or_r}
use Rattle.utf16_units.specs.Compared.{SameTo}
use Rattle.utf16_units.proofs.SameLemmas.{SameTo-whole}
use Rattle.utf16_units.proofs.compare.same_pairs.Goals as goal

pub loop-at-preserved : goal.loop-at-preserved
loop-at-preserved g c =
    let first = c.args.first.now in
    let second = c.args.second.now in
    let at = c.loop-at.at in
    let front = SameTo-whole first second at g.row.N (omega arith) (omega arith) (omega arith) c.loop-at.invariant c.requires.lanes.2
    (omega (arith, c.differing-front.ensures, le_or_l c.differing-front.result c.differing-back.result)) in
    let both = SameTo-whole first second (at + g.row.N) g.row.N (omega arith) (omega arith) (omega arith) front c.requires.lanes.2
    (omega (arith, c.differing-back.ensures, le_or_r c.differing-front.result c.differing-back.result)) in
    subst (SameTo first second) (omega arith) both
