use Rattle.std.proofs.Common.{arith}
use Rattle.std.proofs.lemmas.Grind.{common_steps}
use Rattle.utf16string.proofs.PlainUnits.{encode-unit}
use Rattle.utf16string.proofs.retain_blocks.write_unit.Goals as goal

pub returns-clause-bytes : goal.returns-clause-bytes
returns-clause-bytes g c = rw (encode-unit g.E.Utf16Order.BIG c.args.unit c.ranges.unit.fits) (grind (arith, common_steps))
