use Rattle.std.proofs.Common.{◌∙◌, arith}
use Rattle.utf16_units.proofs.SurrogateLemmas.{class_bits-units}
use Rattle.utf16_fixed.proofs.scan.trailing_bits.Goals as goal

pub returns : goal.returns
returns c = c.class_bits.ensures ∙ class_bits-units 55 c.args.units (omega arith) c.fits-units.1
