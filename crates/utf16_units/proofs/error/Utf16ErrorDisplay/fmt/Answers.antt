use Rattle.std.proofs.Common.{rules}
use Rattle.utf16_units.proofs.error.Utf16ErrorDisplay.fmt.Goals as goal

pub returns-clause-styled : goal.returns-clause-styled
returns-clause-styled g c = search rules

pub returns-clause-writes : goal.returns-clause-writes
returns-clause-writes g c = search rules
