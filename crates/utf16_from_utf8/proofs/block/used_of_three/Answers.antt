use Rattle.std.proofs.Common.{rules}
use Rattle.utf16_from_utf8.proofs.block.used_of_three.Goals as goal

pub returns-then-bytes-at-ge224 : goal.returns-then-bytes-at-ge224
returns-then-bytes-at-ge224 c = search rules
