use Rattle.std.proofs.Common.{rules}
use Rattle.utf16_from_utf8.proofs.units.high_bytes.Goals as goal

pub returns : goal.returns
returns c = search rules
