use Rattle.std.proofs.Common.{arith}
use Rattle.utf16_fixed.proofs.CountLemmas.{above-fewer, lossy_utf32-size}
use Rattle.utf16_fixed.proofs.encode_lossy.from_utf32_lossy_len.Goals as goal

pub overflow_sub-pairs : goal.overflow_sub-pairs
overflow_sub-pairs c = omega (arith, c.count_above.ensures, c.count_above-2.ensures, above-fewer 0xFFFF 0x10_FFFF c.args.utf32.now (omega arith))

pub returns-clause-len : goal.returns-clause-len
returns-clause-len c =
    omega (arith, c.count_above.ensures, c.count_above-2.ensures, above-fewer 0xFFFF 0x10_FFFF c.args.utf32.now (omega arith), lossy_utf32-size c.args.utf32.now)
