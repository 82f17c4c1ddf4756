use Rattle.std.proofs.Common.{rules}
use Rattle.utf16_from_utf8.proofs.units.leading_bytes.Goals as goal

pub returns-clause-highs : goal.returns-clause-highs
returns-clause-highs c = search rules
