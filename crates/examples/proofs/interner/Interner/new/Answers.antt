use Rattle.utf16_units.proofs.NumberedLemmas.{table_none}
use Rattle.examples.proofs.interner.Interner.new.Goals as goal

pub invariant_of-result : goal.invariant_of-result
invariant_of-result g c = rw (c.new.ensures.text, c.new-ends.ensures.items, c.new-order.ensures.items) table_none
