use Rattle.std.proofs.Common.{◌+◌, ◌∙◌, ap, arith}
use Rattle.utf16_units.proofs.SizeLemmas.{begun-last, begun-le, begun-step}
use Rattle.utf16_units.proofs.size.units.Goals as goal

pub loop-at-preserved : goal.loop-at-preserved
loop-at-preserved c = (omega arith, begun-step c.args.bytes.now c.loop-at.at 64 c.loop-at.units c.units_after-units.result c.loop-at.invariant.1 c.units_after-units.ensures)

pub overflow_add-units : goal.overflow_add-units
overflow_add-units c = record { fits = omega (arith, (loop-at-preserved c).1, begun-le c.args.bytes.now) }

pub loop-at-2-preserved : goal.loop-at-2-preserved
loop-at-2-preserved c =
    let more = c.units_after-units-in-loop-at-2 in
    (omega arith, begun-step c.args.bytes.now c.loop-at-2.at 16 c.loop-at-2.units more.result c.loop-at-2.invariant.1 more.ensures)

pub overflow_add-units-in-loop-at-2 : goal.overflow_add-units-in-loop-at-2
overflow_add-units-in-loop-at-2 c = record { fits = omega (arith, (loop-at-2-preserved c).1, begun-le c.args.bytes.now) }

pub returns : goal.returns
returns c =
    let bytes = c.args.bytes.now in
    let last = begun-last bytes c.loop-at-2.at c.requires c.loop-at-2.invariant.0 (omega arith) in
    ap (λ n. c.loop-at-2.units + n) (c.units_after.ensures ∙ last) ∙ c.loop-at-2.invariant.1

pub overflow_add-result : goal.overflow_add-result
overflow_add-result c = record { fits = omega (arith, returns c, begun-le c.args.bytes.now) }
