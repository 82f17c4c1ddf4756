use Rattle.std.proofs.Common.{◌∙◌, arith}
use Rattle.utf16_fixed.proofs.NarrowLemmas.{IsNarrowed-block}
use Rattle.utf16_fixed.proofs.narrow.NarrowBlock8.write.Goals as goal

pub returns-clause-written : goal.returns-clause-written
returns-clause-written g c before done =
    IsNarrowed-block g.E.Utf16Order.BIG c.args.raw.now before c.args.to.now c.args.at done 8 c.latin1_bytes.result
    (omega arith) (omega arith) (omega arith) (c.latin1_bytes.ensures ∙ c.units8-units.ensures.units)
