use Rattle.std.proofs.Common.{◌∙◌, arith, refl, sym}
use Rattle.utf16_to_utf8.proofs.LenLemmas.{added-ascii, len-counted}
use Rattle.utf16_to_utf8.proofs.lens.block_len.Goals as goal

pub returns-then-are_below : goal.returns-then-are_below
returns-then-are_below c = sym (added-ascii c.args.units (c.are_below.ensures c.if-are_below.true) ∙ c.fits-units.0)

pub overflow_sub-result-2 : goal.overflow_sub-result-2
overflow_sub-result-2 c =
    omega (arith, len-counted c.args.units _ _ _ c.fits-units.1 c.class_bits.ensures c.class_bits-2.ensures refl, c.fits-units.0)

pub overflow_sub-result-3 : goal.overflow_sub-result-3
overflow_sub-result-3 c =
    omega (arith, len-counted c.args.units _ _ _ c.fits-units.1 c.class_bits.ensures c.class_bits-2.ensures c.ascii_bits.ensures.bits, c.fits-units.0)

pub returns : goal.returns
returns c =
    omega (arith, len-counted c.args.units _ _ _ c.fits-units.1 c.class_bits.ensures c.class_bits-2.ensures c.ascii_bits.ensures.bits, c.fits-units.0)
