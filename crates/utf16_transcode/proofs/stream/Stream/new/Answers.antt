use Rattle.std.proofs.Common.{refl}
use Rattle.utf16_transcode.proofs.stream.Stream.new.Goals as goal

pub returns-clause-pending : goal.returns-clause-pending
returns-clause-pending c = refl
