use Rattle.std.proofs.Common.{bit_or, cond, ltb, slice_index, ap, ap₂, ◌∙◌}
use Rattle.utf16_from_utf8.specs.UnitLanes.{high_of, low_of, trailing_of}
use Rattle.utf16_from_utf8.proofs.units.four_bytes.Goals as goal

pub returns-clause-highs : goal.returns-clause-highs
returns-clause-highs c = record {
  len = c.where_below.ensures.len;
  lanes = λ i b.
      let two = slice_index c.args.b2 i in
      let previous = c.previous_bytes-previous.ensures.lanes i b in
      c.where_below.ensures.lanes i b
      ∙ ap₂ (cond (ltb two 0xF0))
      (c.joined-highs.ensures.lanes i b
      ∙ ap₂ bit_or (c.high_bytes.ensures.lanes i b ∙ ap (high_of two) previous) (c.trailing_bits.ensures.lanes i b ∙ ap (trailing_of two) previous))
      (c.leading_bytes.ensures.highs.lanes i b);
}

pub returns-clause-lows : goal.returns-clause-lows
returns-clause-lows c = record {
  len = c.where_below-2.ensures.len;
  lanes = λ i b.
      c.where_below-2.ensures.lanes i b
      ∙ ap₂ (cond (ltb (slice_index c.args.b2 i) 0xF0))
      (c.low_bytes.ensures.lanes i b ∙ ap (λ x. low_of x (slice_index c.args.b0 i)) (c.previous_bytes-previous.ensures.lanes i b))
      (c.leading_bytes.ensures.lows.lanes i b);
}
