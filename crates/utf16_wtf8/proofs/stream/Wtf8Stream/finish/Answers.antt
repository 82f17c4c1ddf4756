use Rattle.std.proofs.Common.{◌∙◌}
use Rattle.std.proofs.lemmas.List.{take_rest}
use Rattle.utf16_wtf8.proofs.TailLemmas.{end_is, end_left, end_succeeds, end_succeeds_always, end_text}
use Rattle.utf16_wtf8.proofs.stream.Wtf8Stream.finish.Goals as goal

pub returns-in-NoSpace-clause-tail : goal.returns-in-NoSpace-clause-tail
returns-in-NoSpace-clause-tail g c =
    let call = c.from_wtf8-end in
    rw (c.holding.ensures.pending ∙ take_rest c.pending-pending.result.now call.result.read, ← c.pending-pending.ensures.bytes)
    (λ tail. end_left c.pending-pending.result.now _ tail g.E.Utf16Order.BIG _ _ call.ensures.wrote)

pub returns-in-NoSpace-clause-succeeds : goal.returns-in-NoSpace-clause-succeeds
returns-in-NoSpace-clause-succeeds g c =
    let call = c.from_wtf8-end in
    rw (← c.pending-pending.ensures.bytes)
    (λ tail. end_succeeds c.pending-pending.result.now _ tail g.E.Utf16Order.BIG _ _ call.ensures.wrote call.result.stop call.ensures.stop)

pub returns-in-NoSpace-clause-succeeds_always : goal.returns-in-NoSpace-clause-succeeds_always
returns-in-NoSpace-clause-succeeds_always g c =
    let call = c.from_wtf8-end in
    rw (← c.pending-pending.ensures.bytes) (end_succeeds_always c.pending-pending.result.now _ g.E.Utf16Order.BIG _ _ call.ensures.wrote call.result.stop call.ensures.stop)

pub returns-in_default-clause-leading : goal.returns-in_default-clause-leading
returns-in_default-clause-leading g c =
    let call = c.from_wtf8-end in
    rw (← c.pending-pending.ensures.bytes)
    (λ tail. end_text c.pending-pending.result.now _ tail g.E.Utf16Order.BIG _ _ call.ensures.wrote call.result.stop call.ensures.stop)

pub returns-in_default-clause-truncated : goal.returns-in_default-clause-truncated
returns-in_default-clause-truncated g c =
    let call = c.from_wtf8-end in
    rw (← c.pending-pending.ensures.bytes)
    (λ tail. end_is c.pending-pending.result.now _ tail g.E.Utf16Order.BIG _ _ call.ensures.wrote call.result.stop call.ensures.stop)
