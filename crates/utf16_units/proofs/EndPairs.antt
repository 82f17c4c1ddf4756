-- Whether the surrogates are paired from an index of a block on: by its bits, and as a text.
use Rattle.std.proofs.Common.{◌≡◌, ◌↔◌, ℕ, zero, suc, ◌+◌, ◌-◌, ◌*◌, ◌/◌, ◌%◌, ◌^◌, ◌≤◌, Bool, true, false, cond, List, [], ◌∷◌, ◌++◌, length, map, take, drop, slice_index, sym, ap, ◌∙◌, subst, arith, take_all, Fits, w8, length-append, length-drop, length-take-le, take-append-drop}
use Rattle.std.proofs.lemmas.List.{drop-map, drop_at, length-map}
use Rattle.std.proofs.lemmas.Simd.{chunk-fits}
use Rattle.std.proofs.Math.Nat.{div-div-eq-div-mul, div-one, pow-succ', zero-div}
use Rattle.std.specs.Char.Utf16.{is_high_surrogate, is_low_surrogate}
use lib.Lanes.{Each1, mask_l}
use Rattle.utf16_units.specs.Encoding.{IsUtf16, units_of}
use Rattle.utf16_units.specs.IllFormed.{IsTextUpTo}
use Rattle.utf16_units.specs.Lanes.{Paired}
use Rattle.utf16_units.proofs.EncodingLemmas.{IsUtf16-append}
use Rattle.utf16_units.proofs.PairLemmas.{paired-text}
use Rattle.utf16_units.proofs.SurrogateLemmas.{mask_l-injective, mask_l-last}
use Rattle.utf16_units.proofs.UnitsUpTo.{length-units_of, units_of-behind}

half : (bit : Bool) (n : ℕ) → (cond bit 1 0 + 2 * n) / 2 ≡ n
half true n = omega arith
half false n = omega arith

-- the bits without the first k are the number shifted by k
mask_l-drop : (bits : List Bool) (k : ℕ) → mask_l bits / 2 ^ k ≡ mask_l (drop k bits)
mask_l-drop bits zero = div-one (mask_l bits)
mask_l-drop [] (suc k) = zero-div (2 ^ suc k)
mask_l-drop (bit ∷ bits) (suc k) =
    ap (λ power. mask_l (bit ∷ bits) / power) (pow-succ' 2 k)
    ∙ sym (div-div-eq-div-mul (mask_l (bit ∷ bits)) 2 (2 ^ k))
    ∙ ap (λ n. n / 2 ^ k) (half bit (mask_l bits))
    ∙ mask_l-drop bits k

-- the trailing units are the leading ones shifted by one
paired-bits : (units : List ℕ) → mask_l (map is_low_surrogate units) ≡ 2 * mask_l (map is_high_surrogate units) ↔ Paired false units false
paired-bits units =
    let lows = map is_low_surrogate units in
    let highs = map is_high_surrogate units in (
      (λ e. mask_l-injective (lows ++ false ∷ []) (false ∷ highs)
          (omega (arith, length-append lows (false ∷ []), length-map units is_low_surrogate, length-map units is_high_surrogate))
          (mask_l-last lows false ∙ omega (arith, e))),
      (λ p. omega (arith, mask_l-last lows false, ap mask_l p)),
    )

module _ (units : List ℕ) (from leading trailing : ℕ) (highs : leading ≡ mask_l (map is_high_surrogate units)) (lows : trailing ≡ mask_l (map is_low_surrogate units)) where
  shifted : (is : ℕ → Bool) (bits : ℕ) → bits ≡ mask_l (map is units) → bits / 2 ^ from ≡ mask_l (map is (drop from units))
  shifted is bits e = ap (λ n. n / 2 ^ from) e ∙ mask_l-drop (map is units) from ∙ ap mask_l (drop-map is from units)

  pub paired_from-bits : (trailing / 2 ^ from ≡ 2 * (leading / 2 ^ from)) ↔ Paired false (drop from units) false
  paired_from-bits =
      let high = shifted is_high_surrogate leading highs in
      let low = shifted is_low_surrogate trailing lows in (
        (λ e. (paired-bits (drop from units)).0 (sym low ∙ e ∙ ap (λ n. 2 * n) high)),
        (λ p. low ∙ (paired-bits (drop from units)).1 p ∙ ap (λ n. 2 * n) (sym high)),
      )

-- the bytes from an offset on, at most 32, in the last block of 32 bytes
module _ (big : Bool) (bytes : List ℕ) (from : ℕ) (long : 32 ≤ length bytes) (within : from ≤ length bytes) (near : length bytes ≤ from + 32)
    (even : (32 - (length bytes - from)) % 2 ≡ 0) where
  abbrev before : ℕ
  before = 32 - (length bytes - from)

  abbrev start : ℕ
  start = length bytes - 32

  end-even : length (drop from bytes) % 2 ≡ 0
  end-even = omega (arith, length-drop from bytes)

  end-units : drop (before / 2) (units_of big (take 32 (drop start bytes))) ≡ units_of big (drop from bytes)
  end-units =
      let front = take before (drop start bytes) in
      let many : length (units_of big front) ≡ before / 2 =
      length-units_of big front ∙ ap (λ n. n / 2) (length-take-le before (drop start bytes) (omega (arith, length-drop start bytes))) in
      let at : start + before ≡ from = omega arith in
      ap (λ block. drop (before / 2) (units_of big block)) (take_all 32 (drop start bytes) (omega (arith, length-drop start bytes)))
      ∙ ap (drop (before / 2)) (units_of-behind big bytes start before even (omega arith))
      ∙ drop_at (units_of big front) _ (before / 2) many
      ∙ ap (λ k. units_of big (drop k bytes)) at

  pub end-paired : Paired false (drop (before / 2) (units_of big (take 32 (drop start bytes)))) false
      ↔ ((length (drop from bytes) % 2 ≡ 0) × Paired false (units_of big (drop from bytes)) false)
  end-paired = (
    (λ p. (end-even, subst (λ units. Paired false units false) end-units p)),
    (λ is. subst (λ units. Paired false units false) (sym end-units) is.1),
  )

  pub end-text : ((k : ℕ) → Fits w8 (slice_index bytes k)) → Paired false (units_of big (drop from bytes)) false → IsUtf16 big (drop from bytes)
  end-text fits p =
      let rest = take_all (length bytes - from) (drop from bytes) (omega (arith, length-drop from bytes)) in
      paired-text big (drop from bytes) (subst (Each1 (Fits w8)) rest (chunk-fits w8 from (length bytes - from) bytes fits)) end-even p

-- a text, and a text up to the end
pub text-to_end : (big : Bool) (bytes : List ℕ) (at : ℕ) → IsUtf16 big (take at bytes) → IsUtf16 big (drop at bytes) → IsTextUpTo big bytes (length bytes)
text-to_end big bytes at front behind = record {
  within = omega arith;
  text = subst (IsUtf16 big) (take-append-drop at bytes ∙ sym (take_all (length bytes) bytes (omega arith))) (IsUtf16-append big (take at bytes) (drop at bytes) front behind);
  stops = λ more. absurd (omega (arith, more));
}
