use Rattle.utf16_units.proofs.LawProofs.{found_exactly}
use Rattle.utf16_units.proofs.laws.found_exactly.Goals as goal

pub returns : goal.returns
returns c = found_exactly
