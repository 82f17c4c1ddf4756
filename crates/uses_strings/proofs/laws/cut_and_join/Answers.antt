use Rattle.std.proofs.Common.{rules}
use Rattle.uses_strings.proofs.laws.cut_and_join.Goals as goal

pub returns : goal.returns
returns g c = search rules
