use Rattle.std.proofs.Common.{true, false, arith}
use Rattle.dethrux.proofs.Bounds.{lossy_within}
use Rattle.dethrux.proofs.to_utf8.dethrux_to_utf8_lossy_len.Goals as goal

pub returns-then-is_big_endian-clause-most : goal.returns-then-is_big_endian-clause-most
returns-then-is_big_endian-clause-most c = omega (arith, c.to_utf8_lossy_len.ensures, lossy_within true c.args.utf16.now (λ k. omega (arith, c.type_inv.utf16 k)))

pub returns-else-is_big_endian-clause-most : goal.returns-else-is_big_endian-clause-most
returns-else-is_big_endian-clause-most c =
    omega (arith, c.to_utf8_lossy_len-else-is_big_endian.ensures, lossy_within false c.args.utf16.now (λ k. omega (arith, c.type_inv.utf16 k)))
