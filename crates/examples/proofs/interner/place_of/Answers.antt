use Rattle.std.proofs.Common.{arith}
use Rattle.utf16_units.proofs.NumberedLemmas.{is_new, number_of_part, place_before, place_behind, place_found}
use Rattle.examples.proofs.interner.place_of.Goals as goal

pub name_at-requires-clause-within : goal.name_at-requires-clause-within
name_at-requires-clause-within g c = number_of_part _ _ _ _ c.requires.sorted (omega arith)

pub loop-low-preserved-in-Less : goal.loop-low-preserved-in-Less
loop-low-preserved-in-Less g c = place_behind _ _ _ _ _ _ _ c.requires.sorted c.loop-low.invariant (omega arith) c.name_at.ensures c.in-Less.ensures.cmp

pub loop-low-preserved : goal.loop-low-preserved
loop-low-preserved g c = place_before _ _ _ _ _ _ _ c.requires.sorted c.loop-low.invariant (omega arith) (omega arith) c.name_at.ensures c.in-Greater.ensures.cmp

pub returns-clause-new : goal.returns-clause-new
returns-clause-new g c = is_new _ _ c.requires.sorted _ _ (place_found _ _ _ _ _ c.loop-low.invariant (omega arith))
