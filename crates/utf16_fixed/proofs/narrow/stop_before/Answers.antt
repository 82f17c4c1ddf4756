use Rattle.std.proofs.Common.{arith}
use Rattle.utf16_fixed.proofs.CharLemmas.{begins_above, begins_latin1}
use Rattle.utf16_fixed.proofs.narrow.stop_before.Goals as goal

pub returns-then-read_unit-lt256 : goal.returns-then-read_unit-lt256
returns-then-read_unit-lt256 g c =
    begins_latin1 g.E.Utf16Order.BIG c.args.rest.now c.in-Ok.field-0 c.in-Ok.ensures.char (omega (arith, c.read_unit.ensures, c.if-read_unit-lt256.true))

pub returns-else-read_unit-lt256 : goal.returns-else-read_unit-lt256
returns-else-read_unit-lt256 g c =
    begins_above g.E.Utf16Order.BIG c.args.rest.now c.in-Ok.field-0 c.in-Ok.ensures.char (omega (arith, c.read_unit.ensures, c.if-read_unit-lt256.false))
