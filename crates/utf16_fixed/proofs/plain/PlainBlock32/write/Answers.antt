use Rattle.std.proofs.Common.{arith}
use Rattle.std.proofs.lemmas.List.Elements.{All-take}
use Rattle.utf16_units.specs.Lanes.{IsNoSurrogate}
use Rattle.utf16_fixed.proofs.PlainLemmas.{IsWidened-more}
use Rattle.utf16_fixed.proofs.plain.PlainBlock32.write.Goals as goal

pub returns-clause-written : goal.returns-clause-written
returns-clause-written g c before done =
    IsWidened-more g.E.Utf16Order.BIG c.args.raw.now c.args.to.now c.args.at done 32 32 c.put_wide.new.to c.units32-units.result
    (omega arith) (omega (arith, c.requires.within)) (omega (arith, c.requires.fits)) c.units32-units.ensures.units
    (All-take IsNoSurrogate 32 c.units32-units.result (c.has_no_low_surrogate.ensures c.if-not-has_no_low_surrogate.false)) c.put_wide.ensures
