-- The units of a block before the first surrogate, by its bits.
use Rattle.std.proofs.Common.{◌≡◌, ℕ, ◌<◌, ◌≤◌, Bool, true, false, not, eqb, List, map, length, take, get_or, bit_and, sym, ap, ◌∙◌, subst, arith, Fits, w16, true≢false}
use Rattle.std.proofs.lemmas.List.{get_or-take, length-take}
use Rattle.std.proofs.lemmas.List.Elements.{All-from_get_or}
use Rattle.std.proofs.lemmas.List.Sums.{prefix_len-le-length, prefix_len_passes, prefix_len_stops}
use Rattle.std.proofs.lemmas.Simd.{Each1-get_or, leading_from_mask_l, trailing_mask_l}
use Rattle.std.specs.List.{prefix_len}
use lib.Count.{count_trailing_zeros}
use lib.Lanes.{Each1, mask_l}
use Rattle.utf16_units.specs.Lanes.{HasNoSurrogate, IsNoSurrogate, high_byte}
use Rattle.utf16_units.proofs.SurrogateLemmas.{no_surrogate_here, surrogate_there}

-- whether a high byte is the high byte of a surrogate
abbrev is_surrogate : ℕ → Bool
is_surrogate unit = eqb (bit_and (high_byte unit) 0xF8) 0xD8

-- how many units precede the first surrogate
abbrev front_len : List ℕ → ℕ
front_len units = prefix_len (λ unit. not (is_surrogate unit)) units

not-of : (b answer : Bool) → not b ≡ answer → b ≡ not answer
not-of true answer e = ap not e
not-of false answer e = ap not e

module _ (units : List ℕ) (n bits : ℕ) (long : length units ≡ n) (few : n ≤ 64) (are : bits ≡ mask_l (map is_surrogate units)) where
  pub front_len-all : bits ≡ 0 → n ≡ front_len units
  front_len-all none = sym long ∙ sym (leading_from_mask_l is_surrogate units (sym are ∙ none))

  pub front_len-lowest : 0 < bits → count_trailing_zeros 64 bits ≡ front_len units
  front_len-lowest some =
      ap (count_trailing_zeros 64) are ∙ trailing_mask_l is_surrogate 64 units (omega (arith, long)) (subst (λ m. 0 < m) are some)

  pub front_len-few : front_len units ≤ n
  front_len-few = omega (arith, long, prefix_len-le-length (λ unit. not (is_surrogate unit)) units)

  pub front-plain : HasNoSurrogate (take (front_len units) units)
  front-plain = All-from_get_or IsNoSurrogate (take (front_len units) units) 0 (λ i lt.
      let before : i < front_len units = omega (arith, lt, length-take (front_len units) units) in
      let other = not-of _ _ (prefix_len_passes (λ unit. not (is_surrogate unit)) units i 0 before) in
      subst IsNoSurrogate (sym (get_or-take (front_len units) units i 0 before)) (no_surrogate_here (get_or units i 0) other))

  pub surrogate-after : Each1 (Fits w16) units → front_len units < n → ¬ IsNoSurrogate (get_or units (front_len units) 0)
  surrogate-after fit within plain =
      let k = front_len units in
      let there : is_surrogate (get_or units k 0) ≡ true = not-of _ _ (prefix_len_stops (λ unit. not (is_surrogate unit)) units 0 (omega (arith, long))) in
      let below = (Each1-get_or (Fits w16) units k 0 (omega (arith, long)) fit).fits in
      true≢false (sym there ∙ surrogate_there (get_or units k 0) below plain)
