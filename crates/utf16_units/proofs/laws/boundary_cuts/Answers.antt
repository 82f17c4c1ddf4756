use Rattle.utf16_units.proofs.LawProofs.{boundary_cuts}
use Rattle.utf16_units.proofs.laws.boundary_cuts.Goals as goal

pub returns : goal.returns
returns c = boundary_cuts
