use Rattle.std.proofs.Common.{rules}
use Rattle.utf16_units.proofs.byte_order.BigEndianUtf16Order.BIG.Goals as goal

pub returns : goal.returns
returns c = search rules
