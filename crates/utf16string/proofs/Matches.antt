-- The first match of a part in a text, from where a search finds it.
use Rattle.std.proofs.Common.{◌≡◌, ℕ, ◌+◌, ◌<◌, ◌≤◌, List, ◌++◌, None, Some, sym, ap, ◌∙◌, subst, arith, append_assoc, ⊎_elim}
use Rattle.std.proofs.lemmas.Bool.{cases_lt}
use Rattle.utf16_units.specs.Boundary.{OccursIn, text_from, text_to}
use Rattle.utf16_units.specs.Encoding.{size}
use Rattle.utf16_units.proofs.BoundaryLemmas.{size-text_to, text_from-at}
use Rattle.utf16_bytes.specs.Occurrence.{IsFirst}
use Rattle.utf16_bytes.proofs.PatternLemmas.{between_parts}
use Rattle.utf16string.specs.Replace.{around_match}
use Rattle.utf16string.proofs.FirstMatch.{first_match, no_match}

module _ (text part : List ℕ) where
  pub found_match : (at : ℕ) → IsFirst (λ i. OccursIn text i part) (Some at) → text ≡ text_to text at ++ (part ++ text_from text (at + size part))
      → around_match part text ≡ Some (text_to text at, text_from text (at + size part))
  found_match at first around =
      let least = λ (f b : List ℕ) (e : text_to text at ++ (part ++ text_from text (at + size part)) ≡ f ++ (part ++ b)).
      ⊎_elim
      (λ (less : size f < at). absurd (first.1 (size f) less (between_parts text f part b (around ∙ e ∙ sym (append_assoc f part b)))))
      (λ (late : at ≤ size f). omega (arith, late, size-text_to text at first.0.start))
      (cases_lt (size f) at) in
      subst (λ t. around_match part t ≡ Some (text_to text at, text_from text (at + size part))) (sym around)
      (first_match part (text_to text at) (text_from text (at + size part)) least)

  pub absent_match : IsFirst (λ i. OccursIn text i part) None → around_match part text ≡ None
  absent_match none = no_match part text (λ f b e. none (size f) (between_parts text f part b (e ∙ sym (append_assoc f part b))))

  -- what the text is from a match on
  pub from_match : (at : ℕ) → OccursIn text at part → text ≡ text_to text at ++ (part ++ text_from text (at + size part)) → text_from text at ≡ part ++ text_from text (at + size part)
  from_match at occurs around =
      ap (λ t. text_from t at) around ∙ text_from-at (text_to text at) (part ++ text_from text (at + size part)) at (size-text_to text at occurs.start)
