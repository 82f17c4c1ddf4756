use Rattle.std.proofs.Common.{rules}
use Rattle.uses_strings.proofs.ranges.part_to_utf8.Goals as goal

pub returns-in-None-clause-some : goal.returns-in-None-clause-some
returns-in-None-clause-some g c = search rules

pub returns-in-None-clause-utf8 : goal.returns-in-None-clause-utf8
returns-in-None-clause-utf8 g c = search rules
