use Rattle.std.proofs.Common.{◌++◌, take, ap, sym, ◌∙◌, arith, Fits, w8}
use Rattle.std.proofs.lemmas.Simd.{Each1-get_or}
use Rattle.utf16_from_utf8.proofs.BlockLemmas.{both_stored}
use Rattle.utf16_from_utf8.proofs.ThreesLemmas.{woven-added}
use Rattle.utf16_from_utf8.proofs.threes.write_sixteen_threes.Goals as goal

pub returns-clause-bytes : goal.returns-clause-bytes
returns-clause-bytes g c b2 b1 =
    let x = c.args.firsts in
    let y = c.args.seconds in
    let z = c.args.thirds in
    let p = c.fits-firsts.0 in
    let q = c.fits-seconds.0 in
    let r = c.fits-thirds.0 in
    let high = c.three_highs-highs.ensures in
    let low = c.three_lows.ensures in
    both_stored c.args.at c.paired.result.0 c.paired.result.1 c.args.out.now c.paired.ensures.first_len c.paired.ensures.second_len c.requires.space
    ∙ ap (λ t. take c.args.at c.args.out.now ++ t)
    (c.paired.ensures.pairs
    ∙ woven-added g.E.Utf16Order.BIG b2 b1 x y z _ _ (q ∙ sym p) (r ∙ sym p) (high.len ∙ sym p) (low.len ∙ sym p)
    (λ i b. (Each1-get_or (Fits w8) x i 0 b c.fits-firsts.1).fits) (λ i b. (Each1-get_or (Fits w8) y i 0 (omega (arith, b, p, q)) c.fits-seconds.1).fits) (λ i b. (Each1-get_or (Fits w8) z i 0 (omega (arith, b, p, r)) c.fits-thirds.1).fits)
    (λ i b. c.requires.threes i (omega (arith, b, p))) (λ i b. high.lanes i (omega (arith, b, p))) (λ i b. low.lanes i (omega (arith, b, p))))
