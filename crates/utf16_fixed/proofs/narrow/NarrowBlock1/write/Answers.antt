use Rattle.std.proofs.Common.{arith}
use Rattle.utf16_fixed.proofs.NarrowLemmas.{IsNarrowed-unit}
use Rattle.utf16_fixed.proofs.narrow.NarrowBlock1.write.Goals as goal

pub returns-clause-written : goal.returns-clause-written
returns-clause-written g c before done =
    IsNarrowed-unit g.E.Utf16Order.BIG c.args.raw.now before c.args.to.now c.args.at done c.read_unit-unit.result (omega arith) (omega arith) c.read_unit-unit.ensures
