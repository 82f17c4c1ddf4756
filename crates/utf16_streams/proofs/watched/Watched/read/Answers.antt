use Rattle.std.proofs.Common.{rules}
use Rattle.utf16_streams.proofs.watched.Watched.read.Goals as goal

pub returns-in-Ok-clause-transfers : goal.returns-in-Ok-clause-transfers
returns-in-Ok-clause-transfers g c = search rules
