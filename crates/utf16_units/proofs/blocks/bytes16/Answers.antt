use Rattle.std.proofs.Common.{◌∙◌, ap}
use lib.Lanes.{digits_l, number_l}
use Rattle.utf16_units.proofs.BlockUnits.{bytes-written}
use Rattle.utf16_units.proofs.blocks.bytes16.Goals as goal

pub returns-clause-bytes : goal.returns-clause-bytes
returns-clause-bytes g c =
    ap (λ units. digits_l 256 32 (number_l 65536 units)) c.in_order.ensures
    ∙ bytes-written g.E.Utf16Order.BIG 16 c.args.units c.fits-units.0 c.fits-units.1
