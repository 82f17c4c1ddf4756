use Rattle.std.proofs.Common.{arith}
use Rattle.utf16_bytes.proofs.NulLemmas.{lanes-lowest, lanes-none}
use Rattle.utf16_bytes.proofs.nul.units_before_nul.Goals as goal

pub returns-then-nuls-eq0 : goal.returns-then-nuls-eq0
returns-then-nuls-eq0 g c = lanes-none c.args.units g.row.N c.fits-units.0 c.requires c.if-nuls-eq0.true

pub returns-else-nuls-eq0 : goal.returns-else-nuls-eq0
returns-else-nuls-eq0 g c = lanes-lowest c.args.units g.row.N c.fits-units.0 c.requires (omega (arith, c.if-nuls-eq0.false))
