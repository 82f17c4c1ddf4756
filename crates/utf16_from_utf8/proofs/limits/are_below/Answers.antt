use Rattle.std.proofs.Common.{nat_eq, slice_index, cond, eqb-true, lt-ltb, ap, sym, ◌∙◌}
use Rattle.utf16_from_utf8.proofs.LaneLemmas.{zero_lane, chosen-zero, none_set}
use Rattle.utf16_from_utf8.proofs.limits.are_below.Goals as goal

pub returns : goal.returns
returns c = (
  (λ none i below.
      let lane = zero_lane c.where_below.result c.set_bits.result (eqb-true _ _ none) c.set_bits.ensures.bits i below in
      chosen-zero (slice_index c.args.block i) c.args.limit _ _ (c.each.ensures.lanes i below) (c.each-2.ensures.lanes i below) (sym (c.where_below.ensures.lanes i below) ∙ lane)),
  (λ all.
      ap (λ bits. nat_eq bits 0)
      (none_set c.where_below.result c.set_bits.result c.set_bits.ensures.bound c.set_bits.ensures.bits
      (λ i below. c.where_below.ensures.lanes i below ∙ ap (λ t. cond t (slice_index c.each.result i) (slice_index c.each-2.result i)) (lt-ltb _ _ (all i below)) ∙ c.each.ensures.lanes i below))),
)
