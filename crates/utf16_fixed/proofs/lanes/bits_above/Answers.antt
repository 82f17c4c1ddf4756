use Rattle.utf16_fixed.proofs.FrontLemmas.{above-mask_l}
use Rattle.utf16_fixed.proofs.lanes.bits_above.Goals as goal

pub returns : goal.returns
returns g c = above-mask_l c.args.units g.row.N c.args.limit c.fits-units.0 c.requires
