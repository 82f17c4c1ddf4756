use Rattle.std.proofs.Common.{arith, rules}
use Rattle.utf16_units.proofs.PairLemmas.{PairedTo-none}
use Rattle.utf16_units.proofs.PlainLemmas.{PairedTo-plain}
use Rattle.utf16_units.proofs.validate.plain_front.Goals as goal

pub loop-at-init : goal.loop-at-init
loop-at-init g c = PairedTo-none g.E.Utf16Order.BIG c.args.raw.now

pub plain_pairs-at-requires : goal.plain_pairs-at-requires
plain_pairs-at-requires g c =
    PairedTo-plain g.E.Utf16Order.BIG c.args.raw.now c.loop-at.at c.loop-at.invariant (omega arith) (c.is_plain.ensures (search rules))

pub loop-at-preserved : goal.loop-at-preserved
loop-at-preserved g c =
    PairedTo-plain g.E.Utf16Order.BIG c.args.raw.now c.loop-at.at c.loop-at.invariant (omega arith) (c.is_plain.ensures (search rules))
