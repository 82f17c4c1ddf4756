use Rattle.utf16_units.proofs.PartsLemmas.{part_window}
use Rattle.examples.proofs.interner.name_at.Goals as goal

pub index-requires : goal.index-requires
index-requires g c = part_window _ _ _ _ c.requires.ends c.requires.within c.start_of.ensures
