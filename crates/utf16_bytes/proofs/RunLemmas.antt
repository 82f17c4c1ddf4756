-- If a text repeats itself at an even distance, a pattern that occurs nowhere before (or after)
-- occurs nowhere in the run.
use Rattle.std.proofs.Common.{◌≡◌, ⊎_elim, ℕ, zero, suc, ◌+◌, ◌-◌, ◌*◌, ◌<◌, ◌≤◌, Bool, List, length, slice_index, ap, ◌∙◌, arith}
use Rattle.std.proofs.lemmas.Bool.{cases_lt}
use Rattle.utf16_bytes.specs.Occurrence.{IsOccurrence}
use Rattle.utf16_bytes.proofs.AlikeLemmas.{Alike, occurrence_alike}

module _ (big : Bool) (text pattern : List ℕ) (at half : ℕ) (some : 0 < half) where
  abbrev n : ℕ
  n = length pattern

  -- each byte from two before the offset on equals the one that distance before it
  module _ (end : ℕ) (low : 2 * half + 2 ≤ at) (high : end ≤ length text)
      (same : (k : ℕ) → at - 2 ≤ k → k < end → slice_index text k ≡ slice_index text (k - 2 * half))
      (known : (i : ℕ) → i ≤ at → ¬ (IsOccurrence big text pattern i)) where
    before : (x : ℕ) → at < x → x + n + 2 ≤ end → Alike text n x (x - 2 * half)
    before x after fits = record {
      x_low = omega (arith, after, low);
      y_low = omega (arith, after, low);
      x_high = omega (arith, fits, high);
      y_high = omega (arith, fits, high);
      even = omega (arith, after, low);
      same = λ k within.
          let is : x - 2 + k - 2 * half ≡ x - 2 * half - 2 + k = omega (arith, after, low) in
          same (x - 2 + k) (omega (arith, after)) (omega (arith, within, fits, after, low)) ∙ ap (slice_index text) is;
    }

    none_up_to : (fuel x : ℕ) → x < fuel → x + n + 2 ≤ end → ¬ (IsOccurrence big text pattern x)
    none_up_to zero x less fits o = absurd (omega (arith, less))
    none_up_to (suc fuel) x less fits o = ⊎_elim
        (λ (after : at < x). none_up_to fuel (x - 2 * half) (omega (arith, less, after, low, some)) (omega (arith, fits))
        (occurrence_alike big text pattern x (x - 2 * half) (before x after fits) o))
        (λ (not_after : x ≤ at). known x not_after o)
        (cases_lt at x)

    pub none_in_run : (x : ℕ) → x + n + 2 ≤ end → ¬ (IsOccurrence big text pattern x)
    none_in_run x fits = none_up_to (suc x) x (omega arith) fits

  -- each byte up to two after the pattern's end there equals the one that distance after it
  module _ (start : ℕ) (high : at + n + 2 + 2 * half ≤ length text)
      (same : (k : ℕ) → start ≤ k → k < at + n + 2 → slice_index text k ≡ slice_index text (k + 2 * half))
      (known : (i : ℕ) → at ≤ i → ¬ (IsOccurrence big text pattern i)) where
    after : (x : ℕ) → x < at → start + 2 ≤ x → Alike text n x (x + 2 * half)
    after x less fits = record {
      x_low = omega (arith, fits);
      y_low = omega (arith, fits);
      x_high = omega (arith, less, high);
      y_high = omega (arith, less, high);
      even = omega arith;
      same = λ k within.
          let is : x - 2 + k + 2 * half ≡ x + 2 * half - 2 + k = omega (arith, fits) in
          same (x - 2 + k) (omega (arith, fits)) (omega (arith, within, less, fits)) ∙ ap (slice_index text) is;
    }

    none_down_to : (fuel x : ℕ) → at ≤ x + fuel → start + 2 ≤ x → ¬ (IsOccurrence big text pattern x)
    none_down_to zero x near fits o = known x (omega (arith, near)) o
    none_down_to (suc fuel) x near fits o = ⊎_elim
        (λ (less : x < at). none_down_to fuel (x + 2 * half) (omega (arith, near, some)) (omega (arith, fits))
        (occurrence_alike big text pattern x (x + 2 * half) (after x less fits) o))
        (λ (not_less : at ≤ x). known x not_less o)
        (cases_lt x at)

    pub none_in_run_back : (x : ℕ) → start + 2 ≤ x → ¬ (IsOccurrence big text pattern x)
    none_in_run_back x fits = none_down_to at x (omega arith) fits
