use Rattle.std.proofs.Common.{◌≡◌, ℕ, ◌+◌, ◌-◌, ◌%◌, ◌^◌, ◌<◌, Bool, List, true, false, Fits, length, cond, ltb, ltb-true, ltb-false, w16, slice_index, refl, ap, ◌∙◌, arith}
use Rattle.std.proofs.lemmas.Simd.{Each1-get_or}
use lib.Lanes.{Each1}
use Rattle.utf16_units.proofs.LanesByIndex.{lanes_of_two}
use Rattle.utf16_to_utf8.proofs.BoundLemmas.{lanes_of_choice}
use Rattle.utf16_to_utf8.proofs.lanes.left.Goals as goal

-- the lanes of `b` are taken from the greater ones of both
taken : (x y : ℕ) → x < 2 ^ 16 → y < 2 ^ 16 → (cond (ltb x y) y x + (2 ^ 16 - y)) % 2 ^ 16 ≡ x - y
taken x y a b = go (ltb x y) refl
  where
    go : (t : Bool) → ltb x y ≡ t → (cond t y x + (2 ^ 16 - y)) % 2 ^ 16 ≡ x - y
    go true e = omega (arith, ltb-true x y e, b)
    go false e = omega (arith, ltb-false x y e, a, b)

pub returns : goal.returns
returns g c =
    let a = c.args.a in
    let b = c.args.b in
    let greater = lanes_of_choice g.row.N w16 ltb a b b a c.fits-a.0 c.fits-b.0 c.fits-b.0 c.fits-a.0 in
    let left = lanes_of_two g.row.N (λ x y. (x + (2 ^ 16 - y)) % 2 ^ 16) _ b greater.len c.fits-b.0 in
    let fit = λ (v : List ℕ) (long : length v ≡ g.row.N) (each : Each1 (Fits w16) v) (i : ℕ) (h : i < g.row.N). Each1-get_or (Fits w16) v i 0 (omega (arith, h, long)) each in
    record {
      len = left.len;
      lanes = λ i h. left.lanes i h ∙ ap (λ x. (x + (2 ^ 16 - slice_index b i)) % 2 ^ 16) (greater.lanes i h) ∙ taken (slice_index a i) (slice_index b i) (fit a c.fits-a.0 c.fits-a.1 i h).fits (fit b c.fits-b.0 c.fits-b.1 i h).fits;
    }
