use Rattle.std.proofs.lemmas.Grind.{common_steps}
use Rattle.std.proofs.Common.{arith}
use Rattle.utf16string.proofs.wstring.inserts.move_in.Goals as goal

pub returns-clause-items : goal.returns-clause-items
returns-clause-items g c text last = grind (arith, common_steps)
