-- The parts that a `WStrSplitWith` gives are in the text, each at its offset.
use Rattle.std.proofs.Common.{◌≡◌, ◌∙◌, ℕ, ◌+◌, ◌-◌, Bool, List, [], ◌∷◌, ◌++◌, Option, None, Some, ap, append-nil, append_assoc, arith, map, option_map, refl, reverse, subst, sym, take}
use Rattle.std.proofs.iter.runs.Made.{took}
use Rattle.std.proofs.lemmas.List.{reverse-append}
use Rattle.std.specs.Iterator.{Yields}
use Rattle.std.specs.Iterator.Runs.{EachRunFrom}
use Rattle.utf16_units.specs.Boundary.{text_from, text_to}
use Rattle.utf16_units.specs.Encoding.{size}
use Rattle.utf16_units.specs.declared.byte_order.Utf16Order.{Ghosts}
use Rattle.utf16_units.proofs.BoundaryLemmas.{text_from-at, text_to-at}
use Rattle.utf16_units.proofs.EncodingLemmas.{size-append, size-nil}
use Rattle.utf16_str.specs.Predicates.{GivesLastPart, GivesPart}
use Rattle.utf16_str.specs.Substrings.{LieAt}
use Rattle.utf16_str.specs.SplitWith.{rspaced_offsets, spaced_offsets, split_predicate, split_rest, split_steps, split_steps_back}
use Rattle.utf16_str.specs.WStr.{wstr_text}
use Rattle.utf16_str.specs.declared.split_with.WStrSplitWith.{WStrSplitWith}
use Rattle.utf16_str.specs.declared.wstr.WStr.{WStr}
use Rattle.utf16_str.proofs.PartWindows.{lies_at}
use Rattle.utf16_str.proofs.WithinLemmas.{WithinAt}

module _ (text : List ℕ) where
  -- what is left of a text is its end, from an offset on, or its start, up to an offset
  abbrev LeftFrom : ℕ → Option (List ℕ) → Type 0
  LeftFrom at None = Unit {0}
  LeftFrom at (Some rest) = (front : List ℕ) × (text ≡ front ++ rest) × (at ≡ size front)

  abbrev LeftTo : ℕ → Option (List ℕ) → Type 0
  LeftTo end None = Unit {0}
  LeftTo end (Some rest) = (back : List ℕ) × (text ≡ rest ++ back) × (end ≡ size rest)

  -- the offset of the next part
  abbrev next : ℕ → List ℕ → ℕ
  next at part = at + size part + size (take 1 (text_from text (at + size part)))

  -- the offset where the part before ends
  abbrev previous : ℕ → List ℕ → ℕ
  previous end part = end - size part - size (take 1 (reverse (text_to text (end - size part))))

  module _ (says : ℕ → Bool → Type 0) where
    step : (at : ℕ) (before : Option (List ℕ)) (part : List ℕ) (after : Option (List ℕ)) → GivesPart says before (Some part) after → LeftFrom at before
        → WithinAt text at part × LeftFrom (next at part) after
    step at None part after gives left = absurd (cc gives.0)
    step at (Some rest) part None gives left =
        (((left.0, [], left.1 ∙ ap (λ t. left.0 ++ t) (sym gives.0 ∙ sym (append-nil part))), left.2), tt)
    step at (Some rest) part (Some after) gives left =
        let c = gives.delimiter in
        let front = left.0 ++ part in
        let whole : text ≡ left.0 ++ (part ++ c ∷ after) = left.1 ∙ ap (λ t. left.0 ++ t) gives.split in
        let seam : text ≡ front ++ c ∷ after = whole ∙ sym (append_assoc left.0 part (c ∷ after)) in
        let here : at + size part ≡ size front = omega (arith, left.2, size-append left.0 part) in
        let from : text_from text (at + size part) ≡ c ∷ after = ap (λ t. text_from t (at + size part)) seam ∙ text_from-at front (c ∷ after) (at + size part) (sym here) in
        let past : next at part ≡ size (front ++ c ∷ []) = omega (arith, here, ap (λ t. size (take 1 t)) from, size-append front (c ∷ [])) in
        (((left.0, c ∷ after, whole), left.2), (front ++ c ∷ [], seam ∙ sym (append_assoc front (c ∷ []) after), past))

    step_back : (end : ℕ) (before : Option (List ℕ)) (part : List ℕ) (after : Option (List ℕ)) → GivesLastPart says before (Some part) after → LeftTo end before
        → WithinAt text (end - size part) part × LeftTo (previous end part) after
    step_back end None part after gives left = absurd (cc gives.0)
    step_back end (Some rest) part None gives left =
        let start : end - size part ≡ size [] = omega (arith, left.2, ap size gives.0, size-nil) in
        ((([], left.0, left.1 ∙ ap (λ t. t ++ left.0) (sym gives.0)), start), tt)
    step_back end (Some rest) part (Some before) gives left =
        let c = gives.delimiter in
        let front = before ++ c ∷ [] in
        let split : rest ≡ front ++ part = gives.split ∙ sym (append_assoc before (c ∷ []) part) in
        let whole : text ≡ front ++ (part ++ left.0) = left.1 ∙ ap (λ t. t ++ left.0) split ∙ append_assoc front part left.0 in
        let start : end - size part ≡ size front = omega (arith, left.2, ap size split, size-append front part) in
        let to : text_to text (end - size part) ≡ front = ap (λ t. text_to t (end - size part)) whole ∙ text_to-at front (part ++ left.0) (end - size part) (sym start) in
        let one : take 1 (reverse (text_to text (end - size part))) ≡ c ∷ [] = ap (λ t. take 1 (reverse t)) to ∙ ap (take 1) (reverse-append before (c ∷ [])) in
        let past : previous end part ≡ size before = omega (arith, start, ap size one, size-append before (c ∷ [])) in
        (((front, left.0, whole), start), (c ∷ (part ++ left.0), whole ∙ append_assoc before (c ∷ []) (part ++ left.0), past))

module _ {E F : Type 0} {order : Ghosts E} (whole : WStr E order) (post : F → ℕ → Bool → Type 0) where
  abbrev text : List ℕ
  text = wstr_text whole

  abbrev left : WStrSplitWith E F order → Option (List ℕ)
  left it = option_map wstr_text (split_rest it)

  lie : (at : ℕ) (xs : List (WStr E order)) (s t : WStrSplitWith E F order) → Yields (split_steps post) s xs t → LeftFrom text at (left s)
      → LieAt whole (spaced_offsets text at (map wstr_text xs)) xs
  lie at [] s t y from = tt
  lie at (x ∷ xs) s t y from =
      let one = step text (post (split_predicate s)) at (left s) (wstr_text x) (left y.0) y.1.0 from in
      (lies_at whole at x one.0, lie (next text at (wstr_text x)) xs y.0 t y.2 one.1)

  lie_back : (end : ℕ) (xs : List (WStr E order)) (s t : WStrSplitWith E F order) → Yields (split_steps_back post) s xs t → LeftTo text end (left s)
      → LieAt whole (rspaced_offsets text end (map wstr_text xs)) xs
  lie_back end [] s t y to = tt
  lie_back end (x ∷ xs) s t y to =
      let one = step_back text (post (split_predicate s)) end (left s) (wstr_text x) (left y.0) y.1.0 to in
      (lies_at whole (end - size (wstr_text x)) x one.0, lie_back (previous text end (wstr_text x)) xs y.0 t y.2 one.1)

  module _ (s : WStrSplitWith E F order) (is : split_rest s ≡ Some whole) where
    pub gives_within : EachRunFrom (split_steps post) s (λ p. LieAt whole (spaced_offsets text 0 (map wstr_text p.items)) p.items)
    gives_within p seen from =
        let start = ap left from ∙ ap (option_map wstr_text) is in
        lie 0 p.items p.from (took p).0 (took p).1 (subst (LeftFrom text 0) (sym start) ([], refl, sym size-nil))

    pub gives_within_back : EachRunFrom (split_steps_back post) s (λ p. LieAt whole (rspaced_offsets text (size text) (map wstr_text p.items)) p.items)
    gives_within_back p seen from =
        let start = ap left from ∙ ap (option_map wstr_text) is in
        lie_back (size text) p.items p.from (took p).0 (took p).1 (subst (LeftTo text (size text)) (sym start) ([], sym (append-nil text), refl))
