use Rattle.std.proofs.Common.{◌-◌, ◌/◌, ◌∙◌, ap, arith, length, sum_by}
use Rattle.utf16_units.specs.Encoding.{units_of}
use Rattle.utf16_to_utf8.specs.Lanes.{added_len}
use Rattle.utf16_to_utf8.proofs.LenLemmas.{added-zeros}
use Rattle.utf16_to_utf8.proofs.lens.rest_len.Goals as goal

pub overflow_sub-result-2 : goal.overflow_sub-result-2
overflow_sub-result-2 g c =
    let units = units_of g.E.Utf16Order.BIG c.args.raw.now in
    omega (arith, c.block_len.ensures ∙ ap (sum_by added_len) c.filled_units.ensures.units ∙ added-zeros (32 - length c.args.raw.now / 2) units)

pub returns : goal.returns
returns g c =
    let units = units_of g.E.Utf16Order.BIG c.args.raw.now in
    omega (arith, c.block_len.ensures ∙ ap (sum_by added_len) c.filled_units.ensures.units ∙ added-zeros (32 - length c.args.raw.now / 2) units)
