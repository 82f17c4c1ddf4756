use Rattle.std.proofs.Common.{arith}
use Rattle.std.proofs.lemmas.Simd.{shifts_fit_splat}
use Rattle.utf16_units.proofs.BlockUnits.{swapped-lanes}
use Rattle.utf16_units.proofs.blocks.swapped.Goals as goal

pub overflow_shl-result : goal.overflow_shl-result
overflow_shl-result g c = shifts_fit_splat 16 c.args.units _ 8 (omega arith)

pub overflow_shr-result : goal.overflow_shr-result
overflow_shr-result g c = shifts_fit_splat 16 c.args.units _ 8 (omega arith)

pub returns : goal.returns
returns g c = swapped-lanes _ c.args.units c.fits-units.0
