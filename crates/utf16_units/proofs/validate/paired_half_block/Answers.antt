use Rattle.std.proofs.Common.{◌+◌, ◌≤◌, length, arith, refl, subst}
use Rattle.utf16_units.specs.Lanes.{Paired, Unpaired}
use Rattle.utf16_units.proofs.PairLemmas.{PairedTo-next}
use Rattle.utf16_units.proofs.validate.paired_half_block.Goals as goal

pub returns-in-Some-clause-paired : goal.returns-in-Some-clause-paired
returns-in-Some-clause-paired g c =
    PairedTo-next g.E.Utf16Order.BIG c.args.raw.now c.args.at 32 c.args.leading c.in-Some.last c.requires refl (omega arith)
    (subst (λ us. Paired c.args.leading us c.in-Some.last) c.units16.ensures.units c.in-Some.ensures.some)

pub returns-in-Some-clause-stops : goal.returns-in-Some-clause-stops
returns-in-Some-clause-stops g c stop =
    let long : c.args.at + 32 ≤ length c.args.raw.now = omega arith in
    absurd (stop long c.in-Some.last (subst (λ us. Paired c.args.leading us c.in-Some.last) c.units16.ensures.units c.in-Some.ensures.some))

pub returns-in-None-clause-passes : goal.returns-in-None-clause-passes
returns-in-None-clause-passes g c pass = absurd (pass (λ long. subst (Unpaired c.args.leading) c.units16.ensures.units c.in-None.ensures.none))
