use Rattle.std.proofs.Common.{◌*◌, ◌++◌, ◌∙◌, ap, arith, drop, take}
use Rattle.utf16_fixed.proofs.BasicLemmas.{IsNarrowed-more, lows-front}
use Rattle.utf16_fixed.proofs.basic.BasicBlock8.write.Goals as goal

pub returns-clause-written : goal.returns-clause-written
returns-clause-written g c before done =
    let at = c.args.at in
    let utf32 = c.args.utf32.now in
    let m = c.basic_len.result in
    let front = lows-front m 8 (drop at utf32) c.basic_len.ensures.few c.basic_len.ensures.basic in
    IsNarrowed-more g.E.Utf16Order.BIG utf32 c.args.to.now at done m 8 c.put_half.new.to c.low_units-low.result c.basic_len.ensures.few
    (omega (arith, c.requires.within)) (omega (arith, c.requires.fits)) (ap (take m) c.low_units-low.ensures ∙ front.0) front.1
    (c.put_half.ensures.bytes ∙ ap (λ t. take (2 * at) c.args.to.now ++ t) c.bytes8.ensures.bytes)
