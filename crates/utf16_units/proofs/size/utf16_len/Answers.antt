use Rattle.std.proofs.Common.{ap, arith}
use Rattle.utf16_units.specs.Sizes.{units_begun}
use Rattle.utf16_units.proofs.SizeLemmas.{begun-size, size-le}
use Rattle.utf16_units.proofs.size.utf16_len.Goals as goal

pub returns : goal.returns
returns c =
    let same = ap units_begun c.as_bytes.ensures.value in
    omega (arith, c.units.ensures, same, begun-size c.args.s.now c.utf8.s)

pub overflow_mul-result : goal.overflow_mul-result
overflow_mul-result c =
    let same = ap units_begun c.as_bytes.ensures.value in
    record { fits = omega (arith, c.units.ensures, same, begun-size c.args.s.now c.utf8.s, size-le c.args.s.now c.utf8.s) }
