-- Views of substrings of a text have the bytes at their offsets.
use Rattle.std.proofs.Common.{◌≡◌, ℕ, ◌+◌, ◌-◌, ◌^◌, ◌<◌, Bool, false, true, All, List, [], ◌∷◌, ◌++◌, length, drop, reverse, take, Option, Some, sym, ap, ◌∙◌, subst, arith, append_assoc}
use Rattle.std.proofs.Math.Seq.{drop-append_seam, take-append_seam}
use Rattle.std.proofs.iter.runs.Made.{took}
use Rattle.std.proofs.lemmas.List.{reverse-append}
use Rattle.std.proofs.lemmas.List.Elements.{All-cons, All-head, All-nil, All-tail}
use Rattle.std.specs.Iterator.{Yields, YieldsFirstBy, YieldsLastBy}
use Rattle.std.specs.Iterator.Runs.{EachRunFrom}
use Rattle.utf16_units.specs.declared.byte_order.Utf16Order.{Ghosts}
use Rattle.utf16_units.specs.Boundary.{IsBoundary}
use Rattle.utf16_units.specs.Encoding.{encode, is_utf16, size, text_of}
use Rattle.utf16_units.proofs.EncodingLemmas.{IsUtf16-from_is_utf16, encode-append, encode-text_of, length-encode, size-append}
use Rattle.utf16_units.proofs.PartLemmas.{IsBoundary-seam}
use Rattle.utf16_str.specs.Matches.{YieldsPartsAt}
use Rattle.utf16_str.specs.Substrings.{LieAt, LiesAt, YieldsPartsOf, YieldsPartsOfBack, parts_toward}
use Rattle.utf16_str.specs.Window.{IsWindowOf, bytes_between}
use Rattle.utf16_str.specs.WStr.{wstr_bytes, wstr_text}
use Rattle.utf16_str.specs.declared.wstr.WStr.{WStr}
use Rattle.utf16_str.proofs.CountLemmas.{count-toward}
use Rattle.utf16_str.proofs.SplitLemmas.{few-parts}
use Rattle.utf16_str.proofs.WithinLemmas.{Placed, Within, WithinAt, placed-reverse}

-- the bytes between two others
middle : (front part back : List ℕ) (i : ℕ) → i ≡ length front → bytes_between (front ++ (part ++ back)) i (i + length part) ≡ part
middle front part back i at =
    let long : (i + length part) - i ≡ length part = omega arith in
    ap (λ n. take n (drop i (front ++ (part ++ back)))) long
    ∙ ap (λ n. take (length part) (drop n (front ++ (part ++ back)))) at
    ∙ ap (take (length part)) (drop-append_seam front (part ++ back)) ∙ take-append_seam part back

module _ (big : Bool) (bytes part : List ℕ) (t : is_utf16 big bytes ≡ true) (p : is_utf16 big part ≡ true) (w : Within (text_of big bytes) (text_of big part)) where
  abbrev start : ℕ
  start = size w.0

  abbrev end : ℕ
  end = start + length part

  whole : bytes ≡ encode big w.0 ++ (part ++ encode big w.1)
  whole =
      sym (encode-text_of big bytes (IsUtf16-from_is_utf16 big bytes t)) ∙ ap (encode big) w.2
      ∙ encode-append big w.0 (text_of big part ++ w.1)
      ∙ ap (λ b. encode big w.0 ++ b) (encode-append big (text_of big part) w.1)
      ∙ ap (λ b. encode big w.0 ++ (b ++ encode big w.1)) (encode-text_of big part (IsUtf16-from_is_utf16 big part p))

  long : length part ≡ size (text_of big part)
  long = ap length (sym (encode-text_of big part (IsUtf16-from_is_utf16 big part p))) ∙ length-encode big (text_of big part)

  from : IsBoundary (text_of big bytes) start
  from = subst (λ t. IsBoundary t start) (sym w.2) (IsBoundary-seam w.0 (text_of big part ++ w.1))

  to : IsBoundary (text_of big bytes) end
  to =
      let at : size (w.0 ++ text_of big part) ≡ end = omega (arith, long, size-append w.0 (text_of big part)) in
      subst (λ t. IsBoundary t end) (sym (w.2 ∙ sym (append_assoc w.0 (text_of big part) w.1)))
      (subst (IsBoundary ((w.0 ++ text_of big part) ++ w.1)) at (IsBoundary-seam (w.0 ++ text_of big part) w.1))

  window_of : IsWindowOf (text_of big bytes) (Some (start, end)) × (part ≡ bytes_between bytes start end)
  window_of = (
    (omega arith, from, to),
    sym (ap (λ b. bytes_between b start end) whole ∙ middle (encode big w.0) part (encode big w.1) start (sym (length-encode big w.0))),
  )

-- what follows for each item of a run from what holds of its model
module _ {A B : Type 0} (v : A → B) (Q : B → Type 0) (P : A → Type 0) (each : (x : A) → Q (v x) → P x) where
  each_of : (xs : List A) (s t : List B) → Yields (YieldsFirstBy v (λ (rest : List B). rest)) s xs t → All Q s → All P xs
  each_of [] s t y all = All-nil P
  each_of (x ∷ xs) s t y all =
      let here = subst (All Q) y.1 all in
      All-cons P x xs (each x (All-head Q (v x) y.0 here)) (each_of xs y.0 t y.2 (All-tail Q (v x) y.0 here))

  pub each_item : (left : List B) → All Q left → EachRunFrom (YieldsFirstBy v (λ (rest : List B). rest)) left (λ p. All P p.items)
  each_item left all p seen from = each_of p.items p.from (took p).0 (took p).1 (subst (All Q) (sym from) all)

module _ {E : Type 0} {order : Ghosts E} (whole : WStr E order) where
  pub lies_at : (at : ℕ) (part : WStr E order) → WithinAt (wstr_text whole) at (wstr_text part) → LiesAt whole at part
  lies_at at part w =
      subst (λ i. LiesAt whole i part) (sym w.1) (window_of order.BIG (wstr_bytes whole) (wstr_bytes part) whole.well_formed part.well_formed w.0)

  -- what is left shows the texts that come, the next one first
  module _ (steps : List (List ℕ) → Option (WStr E order) → List (List ℕ) → Type 0) (shown : List (List ℕ) → List (List ℕ))
      (next : (s t : List (List ℕ)) (x : WStr E order) → steps s (Some x) t → shown s ≡ wstr_text x ∷ shown t) where
    lie_at : (offsets : List ℕ) (xs : List (WStr E order)) (s t : List (List ℕ)) → Yields steps s xs t → Placed (wstr_text whole) offsets (shown s) → LieAt whole offsets xs
    lie_at offsets [] s t y p = tt
    lie_at [] (x ∷ xs) s t y p = absurd (subst (Placed (wstr_text whole) []) (next s y.0 x y.1) p)
    lie_at (at ∷ offsets) (x ∷ xs) s t y p =
        let placed = subst (Placed (wstr_text whole) (at ∷ offsets)) (next s y.0 x y.1) p in
        (lies_at at x placed.0, lie_at offsets xs y.0 t y.2 placed.1)

    run_lies : (offsets : List ℕ) (left : List (List ℕ)) → Placed (wstr_text whole) offsets (shown left) → EachRunFrom steps left (λ p. LieAt whole offsets p.items)
    run_lies offsets left placed p seen from =
        lie_at offsets p.items p.from (took p).0 (took p).1 (subst (λ s. Placed (wstr_text whole) offsets (shown s)) (sym from) placed)

  pub yields_parts : (offsets : List ℕ) (left : List (List ℕ)) → Placed (wstr_text whole) offsets left → YieldsPartsOf whole offsets left
  yields_parts = run_lies (YieldsFirstBy wstr_text (λ rest. rest)) (λ rest. rest) (λ s t x is. is)

  pub yields_parts_back : (offsets : List ℕ) (left : List (List ℕ)) → Placed (wstr_text whole) offsets left → YieldsPartsOfBack whole offsets left
  yields_parts_back offsets left placed =
      run_lies (YieldsLastBy wstr_text (λ rest. rest)) reverse (λ s t x is. ap reverse is ∙ reverse-append t (wstr_text x ∷ [])) (reverse offsets) left
      (placed-reverse (wstr_text whole) offsets left placed)

  pub yields_parts_at : (left : List (ℕ × List ℕ)) → All (λ at. WithinAt (wstr_text whole) at.0 at.1) left → YieldsPartsAt whole left
  yields_parts_at =
      each_item (λ at. (at.0, wstr_text at.1)) (λ at. WithinAt (wstr_text whole) at.0 at.1) (λ at. LiesAt whole at.0 at.1) (λ at. lies_at at.0 at.1)

  -- the substrings between occurrences of a part
  module _ (back : Bool) (part : List ℕ) (left : List (List ℕ)) (is : left ≡ parts_toward back part false (wstr_text whole)) where
    pub few_between : length (wstr_bytes whole) + 2 < 2 ^ 64 → length left < 2 ^ 64
    few_between long =
        few-parts order.BIG (wstr_bytes whole) (length left) whole.well_formed long (omega (arith, ap length is, (count-toward back part false (wstr_text whole)).1))
