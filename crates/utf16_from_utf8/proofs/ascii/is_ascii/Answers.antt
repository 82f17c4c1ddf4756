use Rattle.std.proofs.Common.{◌<◌, nat_eq, slice_index, Fits, w8, eqb-true, ap, sym, ◌∙◌, arith}
use Rattle.std.proofs.lemmas.Nat.Bits.{and_pow}
use Rattle.std.proofs.lemmas.Simd.{Each1-get_or}
use Rattle.utf16_from_utf8.proofs.LaneLemmas.{none_set, zero_lane}
use Rattle.utf16_from_utf8.proofs.ascii.is_ascii.Goals as goal

pub returns : goal.returns
returns c = (
  (λ none i below.
      let fits : slice_index c.args.block i < 256 = (Each1-get_or (Fits w8) c.args.block i 0 (omega (arith, c.fits-block.0, below)) c.fits-block.1).fits in
      let lane = zero_lane c.masked.result c.set_bits.result (eqb-true _ _ none) c.set_bits.ensures.bits i below in
      omega (arith, fits, sym (c.masked.ensures.lanes i below) ∙ lane, and_pow (slice_index c.args.block i) 7)),
  (λ ascii.
      ap (λ bits. nat_eq bits 0)
      (none_set c.masked.result c.set_bits.result c.set_bits.ensures.bound c.set_bits.ensures.bits
      (λ i below. c.masked.ensures.lanes i below ∙ omega (arith, and_pow (slice_index c.args.block i) 7, ascii i below)))),
)
