use Rattle.std.proofs.Common.{rules}
use Rattle.utf16_str.proofs.wstr.WStr+BigEndian.from_utf16be_unchecked.Goals as goal

pub from_utf16_unchecked-requires : goal.from_utf16_unchecked-requires
from_utf16_unchecked-requires c = search rules
