-- Code units of a block below a limit.
use Rattle.std.proofs.Common.{◌≡◌, ◌↔◌, ℕ, ◌+◌, ◌*◌, ◌%◌, ◌^◌, ◌<◌, ◌≤◌, Bool, true, false, cond, eqb, leb, List, [], ◌∷◌, length, map, replicate, All, IsTrue, refl, sym, ap, ◌∙◌, arith, w16}
use Rattle.std.proofs.lemmas.Bool.{eq-eqb, eqb-true, false≢true, leb-false, lt-leb}
use Rattle.std.proofs.lemmas.List.Elements.{All-cons, All-head, All-nil, All-tail}
use Rattle.std.proofs.lemmas.List.{length-map}
use Rattle.std.proofs.lemmas.Simd.{mask_l-mod, tops_compared, zip2_splat_left}
use lib.Lanes.{mask_l, top, zip2}

clear : (b : Bool) (m : ℕ) → (cond b 1 0 + 2 * m ≡ 0) ↔ ((b ≡ false) × (m ≡ 0))
clear false m = (λ e. (refl, omega arith), λ h. omega (arith, h.1))
clear true m = (λ e. absurd (omega arith), λ h. absurd (false≢true (sym h.0)))

-- no unit is at or above the limit exactly if all are below it
none_above : (limit : ℕ) (units : List ℕ) → (mask_l (map (leb limit) units) ≡ 0) ↔ All (λ unit. unit < limit) units
none_above limit [] = (λ e. All-nil (λ unit. unit < limit), λ all. refl)
none_above limit (unit ∷ units) =
    let here = clear (leb limit unit) (mask_l (map (leb limit) units)) in
    let rest = none_above limit units in (
      λ e. let parts = here.0 e in All-cons (λ u. u < limit) unit units (omega (arith, leb-false limit unit parts.0)) (rest.0 parts.1),
      λ all.
          here.1 (lt-leb limit unit (All-head (λ u. u < limit) unit units all), rest.1 (All-tail (λ u. u < limit) unit units all)),
    )

pub below_by_bits : (n limit : ℕ) (units : List ℕ) → length units ≡ n → n ≤ 64
    → IsTrue (eqb (mask_l (map (top 15) (zip2 (λ a b. cond (leb a b) 65535 0) (replicate n limit) units)) % 2 ^ 64) 0) ↔ All (λ unit. unit < limit) units
below_by_bits n limit units long few =
    let bits = ap (λ bs. mask_l bs % 2 ^ 64) (tops_compared w16 leb (replicate n limit) units ∙ zip2_splat_left leb limit n units long)
    ∙ mask_l-mod (map (leb limit) units) 64 (omega (arith, length-map units (leb limit), long)) in
    let none = none_above limit units in
    (λ e. none.0 (sym bits ∙ eqb-true _ _ e), λ all. eq-eqb _ _ (bits ∙ none.1 all))
