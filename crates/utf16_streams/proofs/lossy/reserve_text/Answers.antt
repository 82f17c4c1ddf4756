use Rattle.std.proofs.Common.{rules}
use Rattle.utf16_streams.proofs.lossy.reserve_text.Goals as goal

pub returns-clause-nothing : goal.returns-clause-nothing
returns-clause-nothing g c = search rules
