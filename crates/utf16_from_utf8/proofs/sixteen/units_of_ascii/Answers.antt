use Rattle.std.proofs.Common.{arith}
use Rattle.utf16_from_utf8.proofs.UnitLemmas.{all-set, ascii-is}
use Rattle.utf16_from_utf8.proofs.sixteen.units_of_ascii.Goals as goal

pub returns : goal.returns
returns c most b2 b1 = record {
  high_len = c.each.ensures.len;
  low_len = c.fits-block.0;
  bound = omega arith;
  each = λ i few follows. ascii-is _ _ _ _ _ follows.1 (c.requires i few) (all-set i few) (c.each.ensures.lanes i few);
}
