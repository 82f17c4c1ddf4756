use Rattle.std.proofs.Common.{bit_and}
use Rattle.std.proofs.lemmas.Simd.{zip2_splat}
use Rattle.utf16_transcode.proofs.items.low_bits.Goals as goal

pub returns : goal.returns
returns c = zip2_splat bit_and c.args.block 16 0x7F c.fits-block.0
