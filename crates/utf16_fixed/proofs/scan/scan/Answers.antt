use Rattle.std.proofs.Common.{◌-◌, ◌/◌, ◌++◌, ◌∙◌, ap, arith, length, length-drop, replicate}
use Rattle.std.proofs.lemmas.List.{take_rest}
use Rattle.utf16_units.specs.Encoding.{units_of}
use Rattle.utf16_units.proofs.CountLemmas.{counted_bytes}
use Rattle.utf16_fixed.proofs.GreatestLemmas.{ScannedTo-all, ScannedTo-block, ScannedTo-few, ScannedTo-none}
use Rattle.utf16_fixed.proofs.scan.scan.Goals as goal

pub loop-at-init : goal.loop-at-init
loop-at-init g c = ScannedTo-none g.E.Utf16Order.BIG c.args.text.now _ _ c.none-found.ensures

pub with-found-requires : goal.with-found-requires
with-found-requires g c = omega (arith, ScannedTo-few g.E.Utf16Order.BIG c.args.text.now _ _ _ c.loop-at.invariant)

pub loop-at-preserved : goal.loop-at-preserved
loop-at-preserved g c =
    ScannedTo-block g.E.Utf16Order.BIG c.args.text.now c.loop-at.at _ _ c.loop-at.invariant c.units32.result _ _ c.with-found.ensures (omega arith) c.units32.ensures.units

pub filled_units-requires-clause-even : goal.filled_units-requires-clause-even
filled_units-requires-clause-even g c =
    let text = c.args.text.now in
    omega (arith, ap length (take_rest text c.loop-at.at), length-drop c.loop-at.at text, counted_bytes g.E.Utf16Order.BIG text c.requires)

pub with-requires : goal.with-requires
with-requires g c = omega (arith, ScannedTo-few g.E.Utf16Order.BIG c.args.text.now _ _ _ c.loop-at.invariant)

pub returns : goal.returns
returns g c =
    let big = g.E.Utf16Order.BIG in
    let text = c.args.text.now in
    ScannedTo-all big text c.loop-at.at _ _ c.loop-at.invariant c.filled_units.result _ _ c.with.ensures _
    (c.filled_units.ensures.units ∙ ap (λ rest. units_of big rest ++ replicate (32 - length rest / 2) 0) (take_rest text c.loop-at.at))
