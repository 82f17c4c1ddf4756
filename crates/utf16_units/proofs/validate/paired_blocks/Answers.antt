use Rattle.std.proofs.Common.{arith, refl, subst}
use Rattle.utf16_units.specs.Lanes.{Paired, PairedTo}
use Rattle.utf16_units.proofs.PairLemmas.{PairedTo-next}
use Rattle.utf16_units.proofs.validate.paired_blocks.Goals as goal

pub plain_blocks-at-requires : goal.plain_blocks-at-requires
plain_blocks-at-requires g c =
    subst (PairedTo g.E.Utf16Order.BIG c.args.raw.now _) c.if-not-leading.true
    (PairedTo-next g.E.Utf16Order.BIG c.args.raw.now c.loop-at.at 64 c.loop-at.leading c.in-Some.last c.loop-at.invariant refl (omega arith)
    (subst (λ us. Paired c.loop-at.leading us c.in-Some.last) c.units32-units.ensures.units c.in-Some.ensures.some))

pub loop-at-preserved : goal.loop-at-preserved
loop-at-preserved g c =
    PairedTo-next g.E.Utf16Order.BIG c.args.raw.now c.loop-at.at 64 c.loop-at.leading c.in-Some.last c.loop-at.invariant refl (omega arith)
    (subst (λ us. Paired c.loop-at.leading us c.in-Some.last) c.units32-units.ensures.units c.in-Some.ensures.some)
