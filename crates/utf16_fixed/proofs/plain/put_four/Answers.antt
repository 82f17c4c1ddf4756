use Rattle.std.proofs.Common.{◌+◌, arith}
use Rattle.std.proofs.lemmas.Simd.{take_more_put_chunk}
use Rattle.utf16_fixed.proofs.plain.put_four.Goals as goal

pub returns : goal.returns
returns c = take_more_put_chunk c.args.at c.args.to.now c.args.units (c.args.at + 4) (omega (arith, c.fits-units.0)) c.requires
