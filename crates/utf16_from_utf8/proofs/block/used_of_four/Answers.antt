use Rattle.std.proofs.Common.{rules}
use Rattle.utf16_from_utf8.proofs.block.used_of_four.Goals as goal

pub returns-then-bytes-at-ge240 : goal.returns-then-bytes-at-ge240
returns-then-bytes-at-ge240 c = search rules
