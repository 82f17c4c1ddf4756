use Rattle.std.proofs.Common.{rules}
use Rattle.uses_strings.proofs.laws.same_text.Goals as goal

pub returns : goal.returns
returns g c = search rules
