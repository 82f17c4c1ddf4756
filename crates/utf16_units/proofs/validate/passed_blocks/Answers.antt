use Rattle.std.proofs.Common.{◌+◌, ◌-◌, ◌≤◌, cond, ap, ◌∙◌, arith}
use Rattle.utf16_units.proofs.PairLemmas.{PairedTo-some, PairedTo-text, PairedTo-text_before, PassedTo-half}
use Rattle.utf16_units.proofs.validate.passed_blocks.Goals as goal

pub overflow_sub-result : goal.overflow_sub-result
overflow_sub-result g c = PairedTo-some g.E.Utf16Order.BIG c.args.raw.now _ c.type_inv.raw _ c.if-leading.true c.paired_half_block-at.ensures.paired

pub returns-then-leading-clause-well_formed : goal.returns-then-leading-clause-well_formed
returns-then-leading-clause-well_formed g c = PairedTo-text_before g.E.Utf16Order.BIG c.args.raw.now _ c.type_inv.raw _ c.if-leading.true c.paired_half_block-at.ensures.paired

pub returns-else-leading-clause-well_formed : goal.returns-else-leading-clause-well_formed
returns-else-leading-clause-well_formed g c = PairedTo-text g.E.Utf16Order.BIG c.args.raw.now _ c.type_inv.raw _ c.if-leading.false c.paired_half_block-at.ensures.paired

pub returns-then-leading-clause-passed : goal.returns-then-leading-clause-passed
returns-then-leading-clause-passed g c =
    let big = g.E.Utf16Order.BIG in
    let at = c.paired_half_block-at.result.0 in
    let w = c.paired_blocks-whole.ensures in
    let h = c.paired_half_block-at.ensures in
    let room : 2 ≤ at = PairedTo-some big c.args.raw.now at c.type_inv.raw _ c.if-leading.true h.paired in
    PassedTo-half big c.args.raw.now _ _ _ _ w.paired w.stops h.paired h.stops h.passes (at - 2) (ap (λ b. at - 2 + cond b 2 0) c.if-leading.true ∙ omega arith)

pub returns-else-leading-clause-passed : goal.returns-else-leading-clause-passed
returns-else-leading-clause-passed g c =
    let at = c.paired_half_block-at.result.0 in
    let w = c.paired_blocks-whole.ensures in
    let h = c.paired_half_block-at.ensures in
    PassedTo-half g.E.Utf16Order.BIG c.args.raw.now _ _ _ _ w.paired w.stops h.paired h.stops h.passes at (ap (λ b. at + cond b 2 0) c.if-leading.false ∙ omega arith)
