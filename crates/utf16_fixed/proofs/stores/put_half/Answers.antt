use Rattle.std.proofs.Common.{◌+◌, arith}
use Rattle.std.proofs.lemmas.Simd.{take_more_put_chunk}
use Rattle.utf16_fixed.proofs.NarrowLemmas.{drop-put_chunk}
use Rattle.utf16_fixed.proofs.stores.put_half.Goals as goal

pub returns-clause-bytes : goal.returns-clause-bytes
returns-clause-bytes c = take_more_put_chunk c.args.at c.args.to.now c.args.bytes (c.args.at + 16) (omega (arith, c.fits-bytes.0)) c.requires

pub returns-clause-rest : goal.returns-clause-rest
returns-clause-rest c = drop-put_chunk c.args.at c.args.to.now c.args.bytes (c.args.at + 16) (omega (arith, c.fits-bytes.0)) c.requires
