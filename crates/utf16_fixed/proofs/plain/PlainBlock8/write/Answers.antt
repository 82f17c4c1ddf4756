use Rattle.std.proofs.Common.{arith}
use Rattle.utf16_fixed.proofs.PlainLemmas.{IsWidened-more}
use Rattle.utf16_fixed.proofs.plain.PlainBlock8.write.Goals as goal

pub returns-clause-written : goal.returns-clause-written
returns-clause-written g c before done =
    IsWidened-more g.E.Utf16Order.BIG c.args.raw.now c.args.to.now c.args.at done c.plain_len.result 8 c.put_eight.new.to c.units8-units.result
    c.plain_len.ensures.few (omega (arith, c.requires.within)) (omega (arith, c.requires.fits)) c.units8-units.ensures.units c.plain_len.ensures.plain c.put_eight.ensures
