use Rattle.std.proofs.Common.{arith}
use Rattle.dethrux.proofs.Bounds.{valid_within}
use Rattle.dethrux.proofs.from_utf8.dethrux_from_utf8_len.Goals as goal

pub returns-clause-most : goal.returns-clause-most
returns-clause-most c = omega (arith, c.from_utf8_len.ensures, valid_within c.args.utf8.now)
