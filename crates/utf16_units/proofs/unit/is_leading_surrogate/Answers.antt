use Rattle.std.proofs.lemmas.Grind.{common_steps}
use Rattle.std.proofs.Common.{arith}
use Rattle.utf16_units.proofs.unit.is_leading_surrogate.Goals as goal

pub returns : goal.returns
returns c = grind (arith, common_steps)
