use Rattle.utf16_fixed.proofs.NarrowLemmas.{IsNarrowed-none}
use Rattle.utf16_fixed.proofs.narrow.write_latin1.Goals as goal

pub returns-clause-narrowed : goal.returns-clause-narrowed
returns-clause-narrowed g c =
    let to = c.args.to.now in
    c.repeat_block.ensures.written to (c.repeat_block-at-2.ensures.written to (c.repeat_block-at.ensures.written to (IsNarrowed-none g.E.Utf16Order.BIG c.args.raw.now to)))
