use Rattle.std.proofs.Common.{rules}
use Rattle.utf16_units.proofs.unit.decode_surrogates.Goals as goal

pub returns-clause-units : goal.returns-clause-units
returns-clause-units c = search rules
