use Rattle.std.proofs.Common.{rules}
use Rattle.utf16_units.proofs.char.CharUtf16CharExt.encode_utf16_into.Goals as goal

pub returns-clause-bytes : goal.returns-clause-bytes
returns-clause-bytes g c = search rules
