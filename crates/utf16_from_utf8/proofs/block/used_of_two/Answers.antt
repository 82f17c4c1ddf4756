use Rattle.std.proofs.Common.{rules}
use Rattle.utf16_from_utf8.proofs.block.used_of_two.Goals as goal

pub returns-then-bytes-at-ge192 : goal.returns-then-bytes-at-ge192
returns-then-bytes-at-ge192 c = search rules
