use Rattle.std.proofs.Common.{refl}
use Rattle.utf16_streams.proofs.watched.Watched.new.Goals as goal

pub returns-clause-faults : goal.returns-clause-faults
returns-clause-faults g c = refl
