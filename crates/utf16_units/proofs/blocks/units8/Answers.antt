use Rattle.std.proofs.Common.{◌∙◌}
use Rattle.utf16_units.proofs.BlockUnits.{units-read}
use Rattle.utf16_units.proofs.blocks.units8.Goals as goal

pub returns-clause-units : goal.returns-clause-units
returns-clause-units g c = c.in_order.ensures ∙ units-read g.E.Utf16Order.BIG 8 c.args.block c.fits-block.0 c.fits-block.1
