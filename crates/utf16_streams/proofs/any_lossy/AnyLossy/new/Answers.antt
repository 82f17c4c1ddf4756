use Rattle.std.proofs.Common.{refl}
use Rattle.utf16_streams.proofs.any_lossy.AnyLossy.new.Goals as goal

pub returns-clause-pending : goal.returns-clause-pending
returns-clause-pending c = refl
