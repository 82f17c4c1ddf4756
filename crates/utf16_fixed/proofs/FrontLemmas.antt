-- The lanes before the first above a limit, by a bit for each.
use Rattle.std.proofs.Common.{◌≡◌, ℕ, All, ◌<◌, ◌≤◌, ◌-◌, ◌%◌, ◌^◌, not, ltb, List, map, length, replicate, take, sym, ap, ◌∙◌, arith, w32, cond}
use Rattle.std.proofs.lemmas.Bool.{ltb-false, not-true}
use Rattle.std.proofs.lemmas.List.{get_or-take, length-map, length-take}
use Rattle.std.proofs.lemmas.List.Elements.{All-from_get_or}
use Rattle.std.proofs.lemmas.List.Sums.{prefix_len-le-length, prefix_len_passes}
use Rattle.std.proofs.lemmas.Simd.{leading_from_mask_l, mask_l-mod, tops_compared, trailing_mask_l, zip2_splat_left}
use Rattle.std.specs.List.{prefix_len}
use lib.Count.{count_trailing_zeros}
use lib.Lanes.{mask_l, top, zip2}
use Rattle.utf16_fixed.specs.Utf32.{above}

-- lanes compared with a limit
pub above-mask_l : (units : List ℕ) (n limit : ℕ) → length units ≡ n → n ≤ 64
    → mask_l (map (top 31) (zip2 (λ (a b : ℕ). cond (ltb a b) (2 ^ 32 - 1) 0) (replicate n limit) units)) % 2 ^ 64 ≡ mask_l (map (above limit) units)
above-mask_l units n limit long few =
    ap (λ ms. mask_l ms % 2 ^ 64) (tops_compared w32 ltb (replicate n limit) units ∙ zip2_splat_left ltb limit n units long)
    ∙ mask_l-mod (map (above limit) units) 64 (omega (arith, long, few, length-map units (above limit)))

module _ (units : List ℕ) (n limit bits : ℕ) (long : length units ≡ n) (few : n ≤ 64) (are : bits ≡ mask_l (map (above limit) units)) where
  -- how many lanes precede the first above the limit
  abbrev pub front_len : ℕ
  front_len = prefix_len (λ unit. not (above limit unit)) units

  pub front_len-all : bits ≡ 0 → front_len ≡ n
  front_len-all none = leading_from_mask_l (above limit) units (sym are ∙ none) ∙ long

  pub front_len-lowest : 0 < bits → front_len ≡ count_trailing_zeros 64 bits
  front_len-lowest some = grind (arith, trailing_mask_l)

  pub front_len-few : front_len ≤ n
  front_len-few = omega (arith, long, prefix_len-le-length (λ unit. not (above limit unit)) units)

  pub front-below : All (λ unit. unit ≤ limit) (take front_len units)
  front-below = grind (arith, All-from_get_or, length-take, get_or-take, ltb-false, not-true, prefix_len_passes)
