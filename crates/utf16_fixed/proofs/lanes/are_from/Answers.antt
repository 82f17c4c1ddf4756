use Rattle.std.proofs.Common.{arith}
use Rattle.std.proofs.lemmas.Bool.{eqb-true}
use Rattle.utf16_fixed.proofs.LaneLemmas.{from_by_bits}
use Rattle.utf16_fixed.proofs.lanes.are_from.Goals as goal

pub returns : goal.returns
returns c none = from_by_bits 16 c.args.limit c.args.units c.fits-units.0 (omega arith) (eqb-true _ _ none)
