use Rattle.std.proofs.Common.{refl}
use Rattle.utf16_streams.proofs.watched.Watched.faults.Goals as goal

pub returns : goal.returns
returns g c = refl
