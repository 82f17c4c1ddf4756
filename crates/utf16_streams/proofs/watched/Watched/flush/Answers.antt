use Rattle.std.proofs.Common.{refl}
use Rattle.utf16_streams.proofs.watched.Watched.flush.Goals as goal

pub returns-in-Ok-clause-faults : goal.returns-in-Ok-clause-faults
returns-in-Ok-clause-faults g c = refl
