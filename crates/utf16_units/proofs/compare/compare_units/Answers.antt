use Rattle.std.proofs.Common.{◌<◌, ◌+◌, ◌⊎◌, length, arith, ◌∙◌, ap₂, nat_cmp, inl, inr}
use Rattle.utf16_units.proofs.BackChar.{length-even}
use Rattle.utf16_units.proofs.SameLemmas.{decided_at_end, decided_here}
use Rattle.utf16_units.proofs.compare.compare_units.Goals as goal
use Rattle.utf16_units.proofs.compare.compare_units.Goals.{then-loop-at-test+else-second-at-ge2, else-loop-at-test}

pub returns-then-unit-other : goal.returns-then-unit-other
returns-then-unit-other g c =
    c.cmp.ensures ∙ ap₂ nat_cmp c.rank.ensures c.rank-then-unit-other.ensures
    ∙ decided_here g.E.Utf16Order.BIG c.args.first.now c.args.second.now c.loop-at.at c.loop-at.invariant
    c.read_unit-unit.result c.read_unit-other.result c.read_unit-unit.ensures c.read_unit-other.ensures (omega arith) (omega arith)
    c.read_unit-unit.type_inv c.read_unit-other.type_inv c.if-unit-other.true

pub returns : goal.returns
returns g c =
    let ended : (length c.args.first.now < c.loop-at.at + 2) ⊎ (length c.args.second.now < c.loop-at.at + 2) =
    elim c.loop-at-test.branch [ then-loop-at-test+else-second-at-ge2 w ↦ inr (omega arith) | else-loop-at-test w ↦ inl (omega arith) ] in
    c.cmp-2.ensures
    ∙ decided_at_end g.E.Utf16Order.BIG c.args.first.now c.args.second.now c.loop-at.at c.loop-at.invariant
    (length-even g.E.Utf16Order.BIG c.args.first.now c.requires.first_well_formed) (length-even g.E.Utf16Order.BIG c.args.second.now c.requires.second_well_formed) ended
