use Rattle.uses_buffers.proofs.StdLemmas.{lossy_is_std}
use Rattle.uses_buffers.proofs.std_laws.lossy_is_std.Goals as goal

pub returns : goal.returns
returns c = lossy_is_std
