use Rattle.std.proofs.Common.{rules}
use Rattle.utf16_streams.proofs.watched.Watched.write.Goals as goal

pub returns-in-Ok-clause-advances : goal.returns-in-Ok-clause-advances
returns-in-Ok-clause-advances g c = search rules
