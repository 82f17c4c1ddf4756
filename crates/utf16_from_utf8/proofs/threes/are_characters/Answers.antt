use Rattle.std.proofs.Common.{subst, sym, ◌∙◌, arith, Fits, w8}
use Rattle.std.proofs.lemmas.Simd.{Each1-get_or}
use Rattle.utf16_from_utf8.proofs.ThreesLemmas.{IsHigh, woven-utf8}
use Rattle.utf16_from_utf8.proofs.threes.are_characters.Goals as goal

pub returns-then-are_sixteen-clause-well_formed : goal.returns-then-are_sixteen-clause-well_formed
returns-then-are_sixteen-clause-well_formed c scalars =
    let x = c.args.firsts in
    let y = c.args.seconds in
    let z = c.args.thirds in
    let p = c.fits-firsts.0 in
    let q = c.fits-seconds.0 in
    let r = c.fits-thirds.0 in
    woven-utf8 x y z (q ∙ sym p) (r ∙ sym p)
    (λ i b. (Each1-get_or (Fits w8) x i 0 b c.fits-firsts.1).fits) (λ i b. (Each1-get_or (Fits w8) y i 0 (omega (arith, b, p, q)) c.fits-seconds.1).fits) (λ i b. (Each1-get_or (Fits w8) z i 0 (omega (arith, b, p, r)) c.fits-thirds.1).fits)
    (λ i b. c.are_sixteen.ensures c.if-are_sixteen.true i (omega (arith, b, p)))
    (λ i b. subst IsHigh (c.three_highs.ensures.lanes i (omega (arith, b, p))) (c.are_scalars.ensures scalars i (omega (arith, b, p))))
