use Rattle.std.proofs.Common.{◌∙◌, ap, sym, subst}
use Rattle.utf16_units.specs.Split.{IsTail, split_tail}
use Rattle.utf16_units.proofs.SplitUnique.{IsTail-split_tail}
use Rattle.utf16_streams.proofs.lossy.Lossy.pending.Goals as goal

pub returns-clause-tail : goal.returns-clause-tail
returns-clause-tail g c =
    let same = ap (split_tail g.E.Utf16Order.BIG) c.pending-pending.ensures.bytes ∙ c.args.self.now.undecided ∙ sym c.pending-pending.ensures.bytes in
    subst (IsTail g.E.Utf16Order.BIG) same (IsTail-split_tail g.E.Utf16Order.BIG c.pending-pending.result.now)

pub returns-clause-bytes : goal.returns-clause-bytes
returns-clause-bytes g c = c.pending-pending.ensures.bytes
