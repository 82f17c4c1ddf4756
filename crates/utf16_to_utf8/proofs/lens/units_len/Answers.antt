use Rattle.std.proofs.Common.{◌+◌, ◌-◌, ◌∙◌, ap, arith, drop, length, length-drop, refl, sum_by, take, take_all}
use Rattle.std.proofs.lemmas.List.Sums.{sum_by-append}
use Rattle.utf16_units.specs.Encoding.{units_of}
use Rattle.utf16_units.proofs.UnitsUpTo.{length-units_of, units_of-behind}
use Rattle.utf16_to_utf8.specs.Lanes.{added_len}
use Rattle.utf16_to_utf8.proofs.LenLemmas.{added-le}
use Rattle.utf16_to_utf8.proofs.lens.units_len.Goals as goal

pub loop-at-preserved : goal.loop-at-preserved
loop-at-preserved g c =
    let big = g.E.Utf16Order.BIG in
    let bytes = c.args.raw.now in
    let at = c.loop-at.at in
    let here = units_of big (take 64 (drop at bytes)) in
    let more = units_of big (drop (at + 64) bytes) in
    let split = ap (sum_by added_len) (units_of-behind big bytes at 64 refl (omega arith)) ∙ sum_by-append added_len here more in
    record {
      within = omega arith;
      even = omega (arith, c.loop-at.invariant.even);
      counted = omega (arith, split, c.block_len-len.ensures, ap (sum_by added_len) c.units32.ensures.units, c.loop-at.invariant.counted);
    }

pub overflow_add-len : goal.overflow_add-len
overflow_add-len g c =
    let units = units_of g.E.Utf16Order.BIG c.args.raw.now in
    record { fits = omega (arith, (loop-at-preserved g c).counted, added-le units, length-units_of g.E.Utf16Order.BIG c.args.raw.now) }

pub overflow_add-result : goal.overflow_add-result
overflow_add-result g c =
    let big = g.E.Utf16Order.BIG in
    let bytes = c.args.raw.now in
    let at = c.loop-at.at in
    let whole = ap (λ rest. sum_by added_len (units_of big rest)) (take_all (length bytes - at) (drop at bytes) (omega (arith, length-drop at bytes))) in
    let units = units_of big bytes in
    record { fits = omega (arith, c.rest_len.ensures, whole, c.loop-at.invariant.counted, added-le units, length-units_of big bytes) }

pub returns : goal.returns
returns g c =
    let big = g.E.Utf16Order.BIG in
    let bytes = c.args.raw.now in
    let at = c.loop-at.at in
    let whole = ap (λ rest. sum_by added_len (units_of big rest)) (take_all (length bytes - at) (drop at bytes) (omega (arith, length-drop at bytes))) in
    omega (arith, c.rest_len.ensures, whole, c.loop-at.invariant.counted)
