use Rattle.std.proofs.Common.{rules}
use Rattle.utf16_from_utf8.proofs.faults.faults_of_two.Goals as goal

pub returns : goal.returns
returns c = search rules
