use Rattle.std.proofs.Common.{true, false, arith}
use Rattle.dethrux.proofs.WtfBounds.{points_within}
use Rattle.dethrux.proofs.wtf8.dethrux_to_wtf8_len.Goals as goal

pub returns-then-is_big_endian-clause-most : goal.returns-then-is_big_endian-clause-most
returns-then-is_big_endian-clause-most c = omega (arith, c.to_wtf8_len.ensures, points_within true c.args.utf16.now (λ k. omega (arith, c.type_inv.utf16 k)))

pub returns-else-is_big_endian-clause-most : goal.returns-else-is_big_endian-clause-most
returns-else-is_big_endian-clause-most c =
    omega (arith, c.to_wtf8_len-else-is_big_endian.ensures, points_within false c.args.utf16.now (λ k. omega (arith, c.type_inv.utf16 k)))
