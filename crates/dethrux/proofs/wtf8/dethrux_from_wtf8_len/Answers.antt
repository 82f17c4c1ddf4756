use Rattle.std.proofs.Common.{arith}
use Rattle.utf16_wtf8.proofs.FromLenLemmas.{utf16_len_most}
use Rattle.dethrux.proofs.wtf8.dethrux_from_wtf8_len.Goals as goal

pub returns-clause-most : goal.returns-clause-most
returns-clause-most c = omega (arith, utf16_len_most c.args.wtf8.now _ c.from_wtf8_len.ensures.len)
