use Rattle.std.proofs.Common.{◌++◌, append-nil, sym, ap, ◌∙◌, string_bytes}
use Rattle.utf16_transcode.proofs.DecodesLemmas.{shown}
use Rattle.utf16_streams.specs.AnyLossy.{state_byte_order, state_pending}
use Rattle.utf16_streams.proofs.BomLemmas.{still_items, still_tail}
use Rattle.utf16_streams.proofs.any_lossy.State.feed_into.Goals as goal

pub returns-in-Undecided-clause-text : goal.returns-in-Undecided-clause-text
returns-in-Undecided-clause-text g c =
    let before = string_bytes c.args.to.now in
    let undecided = ap state_byte_order c.in-Undecided.is in
    sym (ap (λ i. before ++ shown i) (still_items _ _ _ c.in-Undecided.field-0 undecided (ap state_pending c.in-Undecided.is) (c.requires.decided undecided)) ∙ append-nil before)

pub returns-in-Undecided-clause-pending : goal.returns-in-Undecided-clause-pending
returns-in-Undecided-clause-pending g c =
    let undecided = ap state_byte_order c.in-Undecided.is in
    still_tail _ _ _ c.in-Undecided.field-0 undecided (ap state_pending c.in-Undecided.is) (c.requires.decided undecided)
