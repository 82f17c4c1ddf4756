use Rattle.std.proofs.Common.{rules}
use Rattle.examples.proofs.multi_sz.has_nul.Goals as goal

pub returns-clause-some : goal.returns-clause-some
returns-clause-some g c = search rules

pub returns-clause-none : goal.returns-clause-none
returns-clause-none g c = search rules
