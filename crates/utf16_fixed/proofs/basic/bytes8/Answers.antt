use Rattle.utf16_fixed.proofs.BasicLemmas.{bytes8-are}
use Rattle.utf16_fixed.proofs.basic.bytes8.Goals as goal

pub returns-clause-bytes : goal.returns-clause-bytes
returns-clause-bytes g c = bytes8-are g.E.Utf16Order.BIG c.args.units c.units8.result c.fits-units.0 c.fits-units.1 c.units8.ensures.len c.units8.ensures.units
