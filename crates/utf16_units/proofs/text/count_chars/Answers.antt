use Rattle.std.proofs.Common.{arith}
use Rattle.utf16_units.proofs.CountLemmas.{counted_bytes}
use Rattle.utf16_units.proofs.text.count_chars.Goals as goal

pub overflow_sub-result : goal.overflow_sub-result
overflow_sub-result g c = omega (arith, c.trailing_units.ensures, counted_bytes g.E.Utf16Order.BIG c.args.raw.now c.requires)

pub returns-else-raw-lt-BLOCK : goal.returns-else-raw-lt-BLOCK
returns-else-raw-lt-BLOCK g c = omega (arith, c.trailing_units.ensures, counted_bytes g.E.Utf16Order.BIG c.args.raw.now c.requires)
