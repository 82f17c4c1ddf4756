use Rattle.std.proofs.Common.{rules}
use Rattle.utf16_units.proofs.char.CharUtf16CharExt.encoded_utf16_len.Goals as goal

pub returns-then-self-lt65536 : goal.returns-then-self-lt65536
returns-then-self-lt65536 c = search rules
