use Rattle.std.proofs.Common.{arith}
use Rattle.std.proofs.lemmas.Simd.{shifts_fit_splat}
use Rattle.utf16_units.proofs.SurrogateLemmas.{high_bytes-lanes, high_bytes-lanes_fit}
use Rattle.utf16_units.proofs.surrogates.high_bytes.Goals as goal

pub overflow_shr-result : goal.overflow_shr-result
overflow_shr-result g c = shifts_fit_splat 16 c.args.units _ 8 (omega arith)

pub overflow_cast-result : goal.overflow_cast-result
overflow_cast-result g c = high_bytes-lanes_fit c.args.units g.row.N c.fits-units.0 c.fits-units.1

pub returns : goal.returns
returns g c = high_bytes-lanes c.args.units g.row.N c.fits-units.0
