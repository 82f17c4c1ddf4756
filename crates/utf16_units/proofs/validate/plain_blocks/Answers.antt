use Rattle.std.proofs.Common.{arith, rules}
use Rattle.utf16_units.proofs.PlainLemmas.{PairedTo-plain}
use Rattle.utf16_units.proofs.validate.plain_blocks.Goals as goal

pub loop-at-preserved : goal.loop-at-preserved
loop-at-preserved g c =
    (PairedTo-plain g.E.Utf16Order.BIG c.args.raw.now c.loop-at.at c.loop-at.invariant.0 (omega arith) (c.is_plain.ensures (search rules)), omega arith)
