-- Two offsets of a text with the same bytes around them: a pattern occurs at both or at neither.
use Rattle.std.proofs.Common.{◌≡◌, inl, inr, ℕ, ◌+◌, ◌-◌, ◌%◌, ◌<◌, ◌≤◌, Bool, List, ◌∷◌, length, take, drop, slice_index, sym, ap, ap₂, ◌∙◌, subst, arith, ext_get_or, get_or-drop, get_or-take, length-drop, length-take-le}
use Rattle.std.proofs.lemmas.List.{drop_more}
use Rattle.utf16_units.specs.Split.{BeginsUnpaired}
use Rattle.utf16_units.specs.Unit.{IsLeading, unit_of}
use Rattle.utf16_bytes.specs.Boundary.{EndsLeading, IsCut}
use Rattle.utf16_bytes.specs.Occurrence.{IsOccurrence}

-- n bytes from x and from y on, and two bytes before and after them, are the same
pub record Alike (text : List ℕ) (n x y : ℕ) : Type 0 where
  pub x_low : 2 ≤ x
  pub y_low : 2 ≤ y
  pub x_high : x + n + 2 ≤ length text
  pub y_high : y + n + 2 ≤ length text
  pub even : x % 2 ≡ y % 2
  pub same : (k : ℕ) → k < n + 4 → slice_index text (x - 2 + k) ≡ slice_index text (y - 2 + k)

module _ (big : Bool) (text : List ℕ) where
  -- the last unit of the bytes before an offset
  pub last_unit : (x : ℕ) → 2 ≤ x → x ≤ length text
      → unit_of big (slice_index (take x text) (length (take x text) - 2)) (slice_index (take x text) (length (take x text) - 1))
      ≡ unit_of big (slice_index text (x - 2)) (slice_index text (x - 1))
  last_unit x low high =
      let long = length-take-le x text high in
      ap₂ (unit_of big)
      (ap (λ n. slice_index (take x text) (n - 2)) long ∙ get_or-take x text (x - 2) 0 (omega arith))
      (ap (λ n. slice_index (take x text) (n - 1)) long ∙ get_or-take x text (x - 1) 0 (omega arith))

  ends_alike : (x y : ℕ) → 2 ≤ x → 2 ≤ y → x ≤ length text → y ≤ length text
      → slice_index text (x - 2) ≡ slice_index text (y - 2) → slice_index text (x - 1) ≡ slice_index text (y - 1)
      → EndsLeading big (take x text) → EndsLeading big (take y text)
  ends_alike x y x_low y_low x_high y_high first second ends =
      (omega (arith, length-take-le y text y_high), subst IsLeading (last_unit x x_low x_high ∙ ap₂ (unit_of big) first second ∙ sym (last_unit y y_low y_high)) ends.1)

  begins_alike : (x y : ℕ) → x + 2 ≤ length text → y + 2 ≤ length text
      → slice_index text x ≡ slice_index text y → slice_index text (x + 1) ≡ slice_index text (y + 1)
      → BeginsUnpaired big (drop x text) → BeginsUnpaired big (drop y text)
  begins_alike x y x_high y_high first second begins =
      subst (BeginsUnpaired big) (sym (two y y_high))
      (subst (λ a. BeginsUnpaired big (a ∷ slice_index text (y + 1) ∷ drop (y + 1 + 1) text)) first
      (subst (λ b. BeginsUnpaired big (slice_index text x ∷ b ∷ drop (y + 1 + 1) text)) second
      (subst (BeginsUnpaired big) (two x x_high) begins)))
    where
      two : (z : ℕ) → z + 2 ≤ length text → drop z text ≡ slice_index text z ∷ slice_index text (z + 1) ∷ drop (z + 1 + 1) text
      two z high = drop_more text z 0 (omega (arith, high)) ∙ ap (λ t. slice_index text z ∷ t) (drop_more text (z + 1) 0 (omega (arith, high)))

  module _ (n x y : ℕ) (alike : Alike text n x y) where
    -- the bytes at a distance from two bytes before the offsets
    at_same : (d : ℕ) → d < n + 4 → (i j : ℕ) → i ≡ x - 2 + d → j ≡ y - 2 + d → slice_index text i ≡ slice_index text j
    at_same d within i j i_is j_is = ap (slice_index text) i_is ∙ alike.same d within ∙ sym (ap (slice_index text) j_is)

    cut_alike : (d : ℕ) → d ≤ n → IsCut big text (x + d) → IsCut big text (y + d)
    cut_alike d within (inl end) = absurd (omega (arith, end, alike.x_high, within))
    cut_alike d within (inr between) = inr (
      omega (arith, alike.y_high, within),
      omega (arith, between.1, alike.even),
      (λ ends. begins_alike (x + d) (y + d) (omega (arith, alike.x_high, within)) (omega (arith, alike.y_high, within))
          (at_same (d + 2) (omega (arith, within)) (x + d) (y + d) (omega (arith, alike.x_low)) (omega (arith, alike.y_low)))
          (at_same (d + 3) (omega (arith, within)) (x + d + 1) (y + d + 1) (omega (arith, alike.x_low)) (omega (arith, alike.y_low)))
          (between.2 (ends_alike (y + d) (x + d) (omega (arith, alike.y_low)) (omega (arith, alike.x_low)) (omega (arith, alike.y_high, within)) (omega (arith, alike.x_high, within))
          (sym (at_same d (omega (arith, within)) (x + d - 2) (y + d - 2) (omega (arith, alike.x_low)) (omega (arith, alike.y_low))))
          (sym (at_same (d + 1) (omega (arith, within)) (x + d - 1) (y + d - 1) (omega (arith, alike.x_low)) (omega (arith, alike.y_low))))
          ends))),
    )

    bytes_alike : take n (drop y text) ≡ take n (drop x text)
    bytes_alike =
        let y_long : length (take n (drop y text)) ≡ n = length-take-le n (drop y text) (omega (arith, length-drop y text, alike.y_high)) in
        let x_long : length (take n (drop x text)) ≡ n = length-take-le n (drop x text) (omega (arith, length-drop x text, alike.x_high)) in
        ext_get_or 0 _ _ (y_long ∙ sym x_long)
        (λ j l. get_or-take n _ j 0 (omega (arith, l, y_long)) ∙ get_or-drop y text j 0
        ∙ sym (at_same (j + 2) (omega (arith, l, y_long)) (x + j) (y + j) (omega (arith, alike.x_low)) (omega (arith, alike.y_low)))
        ∙ sym (get_or-take n _ j 0 (omega (arith, l, y_long)) ∙ get_or-drop x text j 0))

-- where a pattern occurs at one of them, it occurs at the other
pub occurrence_alike : (big : Bool) (text pattern : List ℕ) (x y : ℕ) → Alike text (length pattern) x y
    → IsOccurrence big text pattern x → IsOccurrence big text pattern y
occurrence_alike big text pattern x y alike o =
    let n = length pattern in
    let same : x + 0 ≡ x = omega arith in
    let other : y + 0 ≡ y = omega arith in
    record {
      bytes = bytes_alike big text n x y alike ∙ o.bytes;
      start = subst (IsCut big text) other (cut_alike big text n x y alike 0 (omega arith) (subst (IsCut big text) (sym same) o.start));
      end = cut_alike big text n x y alike n (omega arith) o.end;
    }
