use Rattle.std.proofs.Common.{slice_index, ap, arith, ◌∙◌}
use Rattle.utf16_from_utf8.specs.UnitLanes.{high_of, low_of}
use Rattle.utf16_from_utf8.proofs.LaneByteLemmas.{bytes-by}
use Rattle.utf16_from_utf8.proofs.UnitLemmas.{three-unit}
use Rattle.utf16_from_utf8.proofs.sixteen.units_of_three.Goals as goal

pub returns : goal.returns
returns c = record {
  high_len = c.high_bytes.ensures.len;
  low_len = c.low_bytes.ensures.len;
  bound = c.ended_bits.ensures.bound;
  each = λ i few follows.
      let previous = c.previous_bytes-previous.ensures.lanes i few in
      record {
        ends = c.ended_bits.ensures.bits i few;
        bytes = λ low one. bytes-by _ _ _ _ _
            (c.high_bytes.ensures.lanes i few ∙ ap (high_of (slice_index c.args.b2 i)) previous)
            (c.low_bytes.ensures.lanes i few ∙ ap (λ x. low_of x (slice_index c.args.block i)) previous)
            (three-unit _ _ _ (follows.0 (omega arith)) low one);
      };
}
