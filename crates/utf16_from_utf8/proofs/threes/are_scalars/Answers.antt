use Rattle.std.proofs.Common.{rules}
use Rattle.utf16_from_utf8.proofs.threes.are_scalars.Goals as goal

pub returns : goal.returns
returns c = search rules
