use Rattle.std.proofs.Common.{rules}
use Rattle.utf16_streams.proofs.lossy.Lossy.finish.Goals as goal

pub returns-else-is_empty-clause-none : goal.returns-else-is_empty-clause-none
returns-else-is_empty-clause-none g c = search rules

pub returns-else-is_empty-clause-replacement : goal.returns-else-is_empty-clause-replacement
returns-else-is_empty-clause-replacement g c = search rules
