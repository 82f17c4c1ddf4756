use Rattle.std.proofs.Common.{inl, rules}
use Rattle.utf16_units.proofs.PairLemmas.{PairedTo-none}
use Rattle.utf16_to_utf8.proofs.vectors.write_paired_vectors.Goals as goal

pub loop-done-init : goal.loop-done-init
loop-done-init g c = record { reached = search rules; paired = PairedTo-none g.E.Utf16Order.BIG c.args.raw.now; few = search rules }

pub returns-in_default-clause-stop : goal.returns-in_default-clause-stop
returns-in_default-clause-stop g c = inl (c.write_paired_eight.ensures.none c.in_default.is)
