use Rattle.utf16_from_utf8.proofs.LaneByteLemmas.{bytes-by}
use Rattle.utf16_from_utf8.proofs.UnitLemmas.{four-unit}
use Rattle.utf16_from_utf8.proofs.sixteen.units_of_four.Goals as goal

pub returns : goal.returns
returns c most =
    let high = c.four_bytes.ensures.highs in
    let low = c.four_bytes.ensures.lows in
    record {
      high_len = high.len;
      low_len = low.len;
      bound = c.ended_bits.ensures.bound;
      each = λ i few follows. record {
        ends = c.ended_bits.ensures.bits i few;
        bytes = λ last one. bytes-by _ _ _ _ _ (high.lanes i few) (low.lanes i few) (four-unit _ _ _ follows.1 last one);
      };
    }
