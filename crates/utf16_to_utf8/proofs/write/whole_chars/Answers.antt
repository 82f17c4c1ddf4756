use Rattle.utf16_units.proofs.PairLemmas.{PairedTo-text}
use Rattle.utf16_to_utf8.proofs.LeadingLemmas.{before-leading, some, some_written, stops-before, stops-more, text}
use Rattle.utf16_to_utf8.proofs.PlainLemmas.{written-text}
use Rattle.utf16_to_utf8.proofs.write.whole_chars.Goals as goal

pub returns-clause-well_formed : goal.returns-clause-well_formed
returns-clause-well_formed g c = PairedTo-text g.E.Utf16Order.BIG c.args.raw.now _ c.type_inv.raw _ c.if-done.false c.requires.paired

pub returns-clause-utf8 : goal.returns-clause-utf8
returns-clause-utf8 g c = written-text g.E.Utf16Order.BIG c.args.raw.now c.args.out.now c.args.done.cursor c.type_inv.raw c.requires.reached (returns-clause-well_formed g c)

pub returns-clause-stop : goal.returns-clause-stop
returns-clause-stop g c size even stops = stops-more g.E.Utf16Order.BIG c.args.raw.now c.args.done.cursor.at c.args.done.leading c.if-done.false size even stops

pub overflow_sub-result : goal.overflow_sub-result
overflow_sub-result g c = some g.E.Utf16Order.BIG _ _ _ c.type_inv.raw c.requires.reached _ c.if-done.true c.requires.paired

pub overflow_sub-result-then-done : goal.overflow_sub-result-then-done
overflow_sub-result-then-done g c = some_written g.E.Utf16Order.BIG _ _ _ c.type_inv.raw c.requires.reached _ c.if-done.true c.requires.paired

pub returns-then-done-clause-well_formed : goal.returns-then-done-clause-well_formed
returns-then-done-clause-well_formed g c = text g.E.Utf16Order.BIG _ _ _ c.type_inv.raw c.requires.reached _ c.if-done.true c.requires.paired

pub returns-then-done-clause-utf8 : goal.returns-then-done-clause-utf8
returns-then-done-clause-utf8 g c = before-leading g.E.Utf16Order.BIG _ _ _ c.type_inv.raw c.requires.reached _ c.if-done.true c.requires.paired

pub returns-then-done-clause-stop : goal.returns-then-done-clause-stop
returns-then-done-clause-stop g c size even stops = stops-before g.E.Utf16Order.BIG _ _ _ c.type_inv.raw c.requires.reached _ c.if-done.true c.requires.paired size stops
