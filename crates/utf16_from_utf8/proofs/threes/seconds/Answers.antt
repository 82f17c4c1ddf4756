use Rattle.std.proofs.Common.{[], ◌∷◌, refl}
use Rattle.utf16_from_utf8.proofs.ThreesLemmas.{plane}
use Rattle.utf16_from_utf8.proofs.threes.seconds.Goals as goal

pub returns : goal.returns
returns c =
    plane 1 (0 ∷ 17 ∷ 18 ∷ 3 ∷ 20 ∷ 21 ∷ 6 ∷ 23 ∷ 24 ∷ 9 ∷ 26 ∷ 27 ∷ 12 ∷ 29 ∷ 30 ∷ 15 ∷ [])
    (16 ∷ 1 ∷ 18 ∷ 19 ∷ 4 ∷ 21 ∷ 22 ∷ 7 ∷ 24 ∷ 25 ∷ 10 ∷ 27 ∷ 28 ∷ 13 ∷ 30 ∷ 31 ∷ [])
    (1 ∷ 4 ∷ 7 ∷ 10 ∷ 13 ∷ 0 ∷ 3 ∷ 6 ∷ 9 ∷ 12 ∷ 15 ∷ 2 ∷ 5 ∷ 8 ∷ 11 ∷ 14 ∷ [])
    c.args.a c.args.b c.args.c c.fits-a.0 c.fits-b.0 c.fits-c.0 (λ x y z. refl)
