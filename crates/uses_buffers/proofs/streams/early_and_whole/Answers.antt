use Rattle.std.proofs.Common.{sym, subst₂}
use Rattle.std.specs.Io.{StartsWith}
use Rattle.uses_buffers.proofs.ReadLemmas.{fresh, shown_early}
use Rattle.uses_buffers.proofs.streams.early_and_whole.Goals as goal

pub returns-clause-early : goal.returns-clause-early
returns-clause-early g c = fresh _ _ _ _ c.new.ensures c.in_ok-early.ensures.text

pub returns-clause-whole : goal.returns-clause-whole
returns-clause-whole g c = fresh _ _ _ _ c.new-2.ensures c.in_ok-all.ensures.text

pub returns-clause-prefix : goal.returns-clause-prefix
returns-clause-prefix g c =
    subst₂ StartsWith (sym (returns-clause-whole g c)) (sym (returns-clause-early g c))
    (shown_early c.items_stay.ensures g.E.Utf16Order.BIG c.args.whole.now c.args.at)
