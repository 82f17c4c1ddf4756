use Rattle.std.proofs.Common.{◌≡◌, ◌+◌, arith, subst}
use Rattle.utf16_fixed.specs.Progress.{IsNarrowed}
use Rattle.utf16_fixed.proofs.BasicLemmas.{IsNarrowed-block}
use Rattle.utf16_fixed.proofs.basic.BasicBlock32.write.Goals as goal

pub returns-clause-written : goal.returns-clause-written
returns-clause-written g c before done =
    let big = g.E.Utf16Order.BIG in
    let utf32 = c.args.utf32.now in
    let at = c.args.at in
    let end : at + 16 + 16 ≡ at + 32 = omega arith in
    let basic = c.if-not-are_basic.false in
    let first = IsNarrowed-block big utf32 c.args.to.now at done 16 c.put_sixteen.new.to c.low_units-first.result
    (omega (arith, c.requires.within)) (omega (arith, c.requires.fits)) c.low_units-first.ensures (c.are_basic.ensures.first basic) c.put_sixteen.ensures.bytes in
    let second = IsNarrowed-block big utf32 c.put_sixteen.new.to (at + 16) first 16 c.put_sixteen-2.new.to c.low_units-second.result
    (omega (arith, c.requires.within)) (omega (arith, c.requires.fits)) c.low_units-second.ensures (c.are_basic.ensures.second basic) c.put_sixteen-2.ensures.bytes in
    subst (IsNarrowed big utf32 c.put_sixteen-2.new.to) end second
