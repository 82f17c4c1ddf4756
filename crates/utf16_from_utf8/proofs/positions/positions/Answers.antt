use Rattle.utf16_from_utf8.proofs.PackLemmas.{rows}
use Rattle.utf16_from_utf8.proofs.positions.positions.Goals as goal

pub returns : goal.returns
returns c = rows c.args.bits c.requires
