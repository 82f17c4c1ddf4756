use Rattle.std.proofs.Common.{[], ◌∷◌, refl}
use Rattle.utf16_from_utf8.proofs.ThreesLemmas.{plane}
use Rattle.utf16_from_utf8.proofs.threes.thirds.Goals as goal

pub returns : goal.returns
returns c =
    plane 2 (16 ∷ 1 ∷ 18 ∷ 19 ∷ 4 ∷ 21 ∷ 22 ∷ 7 ∷ 24 ∷ 25 ∷ 10 ∷ 27 ∷ 28 ∷ 13 ∷ 30 ∷ 31 ∷ [])
    (16 ∷ 17 ∷ 2 ∷ 19 ∷ 20 ∷ 5 ∷ 22 ∷ 23 ∷ 8 ∷ 25 ∷ 26 ∷ 11 ∷ 28 ∷ 29 ∷ 14 ∷ 31 ∷ [])
    (2 ∷ 5 ∷ 8 ∷ 11 ∷ 14 ∷ 1 ∷ 4 ∷ 7 ∷ 10 ∷ 13 ∷ 0 ∷ 3 ∷ 6 ∷ 9 ∷ 12 ∷ 15 ∷ [])
    c.args.a c.args.b c.args.c c.fits-a.0 c.fits-b.0 c.fits-c.0 (λ x y z. refl)
