use Rattle.std.proofs.Common.{true, false, arith}
use Rattle.utf16_fixed.proofs.LenLemmas.{lossy_text-most}
use Rattle.dethrux.proofs.utf32.dethrux_to_utf32_lossy_len.Goals as goal

pub returns-then-is_big_endian-clause-most : goal.returns-then-is_big_endian-clause-most
returns-then-is_big_endian-clause-most c = omega (arith, c.to_utf32_lossy_len.ensures, lossy_text-most true c.args.utf16.now (λ k. omega (arith, c.type_inv.utf16 k)))

pub returns-else-is_big_endian-clause-most : goal.returns-else-is_big_endian-clause-most
returns-else-is_big_endian-clause-most c =
    omega (arith, c.to_utf32_lossy_len-else-is_big_endian.ensures, lossy_text-most false c.args.utf16.now (λ k. omega (arith, c.type_inv.utf16 k)))
