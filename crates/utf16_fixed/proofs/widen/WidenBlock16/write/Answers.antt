use Rattle.std.proofs.Common.{arith}
use Rattle.utf16_fixed.proofs.WidenLemmas.{IsWidened-next}
use Rattle.utf16_fixed.proofs.widen.WidenBlock16.write.Goals as goal

pub returns-clause-written : goal.returns-clause-written
returns-clause-written g c before done =
    let put = c.write_sixteen in
    IsWidened-next g.E.Utf16Order.BIG c.args.latin1.now before c.args.to.now put.new.to c.args.at 16 done (omega arith) (omega arith) put.ensures.bytes put.ensures.rest
