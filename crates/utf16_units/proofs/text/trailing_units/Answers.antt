use Rattle.std.proofs.Common.{IsTrue, ◌↔◌, ap, ◌∙◌, arith, map, subst}
use lib.Lanes.{mask_l}
use Rattle.std.specs.Char.Utf16.{is_low_surrogate}
use Rattle.utf16_units.specs.Unit.{IsTrailing}
use Rattle.utf16_units.proofs.CountLemmas.{CountedTo-all, CountedTo-block, CountedTo-few, CountedTo-none, CountedTo-unit}
use Rattle.utf16_units.proofs.text.trailing_units.Goals as goal

pub loop-at-init : goal.loop-at-init
loop-at-init g c = CountedTo-none g.E.Utf16Order.BIG c.args.raw.now

pub loop-at-preserved : goal.loop-at-preserved
loop-at-preserved g c =
    CountedTo-block g.E.Utf16Order.BIG c.args.raw.now c.loop-at.at c.loop-at.trailing c.trailing_bits.result c.loop-at.invariant (omega arith)
    (c.trailing_bits.ensures ∙ ap (λ us. mask_l (map is_low_surrogate us)) c.units32.ensures.units)

pub overflow_add-trailing : goal.overflow_add-trailing
overflow_add-trailing g c = record { fits = omega (arith, CountedTo-few g.E.Utf16Order.BIG c.args.raw.now _ _ (loop-at-preserved g c)) }

pub loop-at-2-preserved : goal.loop-at-2-preserved
loop-at-2-preserved g c =
    CountedTo-unit g.E.Utf16Order.BIG c.args.raw.now c.loop-at-2.at c.loop-at-2.trailing c.is_trailing_surrogate.result c.loop-at-2.invariant (omega arith)
    (subst (λ unit. IsTrue c.is_trailing_surrogate.result ↔ IsTrailing unit) c.read_unit.ensures c.is_trailing_surrogate.ensures)

pub overflow_add-trailing-in-loop-at-2 : goal.overflow_add-trailing-in-loop-at-2
overflow_add-trailing-in-loop-at-2 g c = record { fits = omega (arith, CountedTo-few g.E.Utf16Order.BIG c.args.raw.now _ _ (loop-at-2-preserved g c)) }

pub returns : goal.returns
returns g c = CountedTo-all g.E.Utf16Order.BIG c.args.raw.now c.loop-at-2.at c.loop-at-2.trailing c.loop-at-2.invariant (omega arith)
