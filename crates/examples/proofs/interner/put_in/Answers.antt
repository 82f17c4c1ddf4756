use Rattle.utf16_units.proofs.NumberedLemmas.{table_insert}
use Rattle.examples.proofs.interner.put_in.Goals as goal

pub returns-in_ok-insert-in-Err-clause-table : goal.returns-in_ok-insert-in-Err-clause-table
returns-in_ok-insert-in-Err-clause-table g c = rw (c.in_ok-insert-in-Err.ensures.ends, c.in_ok-insert-in-Err.ensures.sorted, c.in_ok-insert-in-Err.ensures.text) (table_insert _ _ _ _ _ c.requires (rw (c.deref.ensures.value, c.deref-2.ensures.value) at c.in-Err.ensures.place))
