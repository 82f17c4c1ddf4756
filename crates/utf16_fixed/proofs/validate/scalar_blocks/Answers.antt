use Rattle.std.proofs.Common.{rules}
use Rattle.utf16_fixed.proofs.ValidLemmas.{IsUtf32-next}
use Rattle.utf16_fixed.proofs.validate.scalar_blocks.Goals as goal

pub loop-at-preserved : goal.loop-at-preserved
loop-at-preserved c = record {
  within = search rules;
  valid = IsUtf32-next c.args.utf32.now c.loop-at.at 16 c.loop-at.invariant.valid (c.are_scalars.ensures c.if-are_scalars.true);
}
