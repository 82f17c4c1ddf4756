-- The parts that a `WStrSplitWith` gives from either end, as one list.
use Rattle.std.proofs.Common.{◌≡◌, ℕ, Bool, true, false, List, [], ◌∷◌, ◌++◌, Option, None, Some, length, map, option_map, reverse, refl, sym, ap, ◌∙◌, subst, append-nil, append_assoc}
use Rattle.std.proofs.iter.runs.Made.{took}
use Rattle.std.proofs.iter.runs.Sources.{lists, lists_back}
use Rattle.std.proofs.lemmas.List.{reverse-append}
use Rattle.std.proofs.lemmas.List.Elements.{All-weaker}
use Rattle.std.proofs.lemmas.List.Splits.{slice_split_at, slice_split_none}
use Rattle.std.specs.Iterator.{Yields}
use Rattle.std.specs.Iterator.Runs.{EachRunFrom, ItemsMapTo, ItemsMapToReversed}
use Rattle.std.specs.List.{slice_split}
use Rattle.utf16_str.specs.Predicates.{AnswersBy, GivesLastPart, GivesPart, SaysOfEach}
use Rattle.utf16_str.specs.SplitWith.{SplitsText, SplitsTextBack, split_predicate, split_rest, split_steps, split_steps_back}
use Rattle.utf16_str.specs.WStr.{wstr_text}
use Rattle.utf16_str.specs.declared.split_with.WStrSplitWith.{WStrSplitWith}
use Rattle.utf16_str.specs.declared.wstr.WStr.{WStr}
use Rattle.utf16_units.specs.declared.byte_order.Utf16Order.{Ghosts}
use Rattle.utf16_str.proofs.PredicateAround.{split-around}

-- the parts of what is left of a text: none after the last part
abbrev parts_of : (ℕ → Bool) → Option (List ℕ) → List (List ℕ)
parts_of k None = []
parts_of k (Some text) = slice_split k text

gives-none : (says : ℕ → Bool → Type 0) (k : ℕ → Bool) (before after : Option (List ℕ)) → GivesPart says before None after → parts_of k before ≡ []
gives-none says k None after gives = refl
gives-none says k (Some text) after gives = absurd gives

gives_last-none : (says : ℕ → Bool → Type 0) (k : ℕ → Bool) (before after : Option (List ℕ)) → GivesLastPart says before None after → parts_of k before ≡ []
gives_last-none says k None after gives = refl
gives_last-none says k (Some text) after gives = absurd gives

module _ (says : ℕ → Bool → Type 0) (k : ℕ → Bool) (by : AnswersBy says k) where
  one : (part : List ℕ) → SaysOfEach says false part → slice_split k part ≡ part ∷ []
  one part misses = slice_split_none k part (All-weaker (λ c. says c false) (λ c. k c ≡ false) (λ c miss. sym (by c false miss)) part misses)

  gives-some : (before : Option (List ℕ)) (part : List ℕ) (after : Option (List ℕ)) → GivesPart says before (Some part) after → parts_of k before ≡ part ∷ parts_of k after
  gives-some None part after gives = absurd (cc gives.0)
  gives-some (Some text) part None gives = one text gives.1 ∙ ap (λ t. t ∷ []) (sym gives.0)
  gives-some (Some text) part (Some after) gives =
      ap (slice_split k) gives.split
      ∙ slice_split_at k part gives.delimiter after (All-weaker (λ c. says c false) (λ c. k c ≡ false) (λ c miss. sym (by c false miss)) part gives.before) (sym (by gives.delimiter true gives.here))

  gives_last-some : (before : Option (List ℕ)) (part : List ℕ) (after : Option (List ℕ)) → GivesLastPart says before (Some part) after → parts_of k before ≡ parts_of k after ++ part ∷ []
  gives_last-some None part after gives = absurd (cc gives.0)
  gives_last-some (Some text) part None gives = one text gives.1 ∙ ap (λ t. t ∷ []) (sym gives.0)
  gives_last-some (Some text) part (Some before) gives =
      ap (slice_split k) gives.split
      ∙ split-around k before gives.delimiter part (sym (by gives.delimiter true gives.here))
      ∙ ap (λ parts. slice_split k before ++ parts) (one part gives.after)

module _ {E F : Type 0} {order : Ghosts E} (post : F → ℕ → Bool → Type 0) where
  fronts : (k : ℕ → Bool) (xs : List (WStr E order)) (s t : WStrSplitWith E F order) → AnswersBy (post (split_predicate s)) k → Yields (split_steps post) s xs t
      → parts_of k (option_map wstr_text (split_rest s)) ≡ map wstr_text xs ++ parts_of k (option_map wstr_text (split_rest t))
  fronts k [] s t by y = ap (λ it. parts_of k (option_map wstr_text (split_rest it))) y
  fronts k (x ∷ xs) s t by y =
      gives-some (post (split_predicate s)) k by (option_map wstr_text (split_rest s)) (wstr_text x) (option_map wstr_text (split_rest y.0)) y.1.0
      ∙ ap (λ l. wstr_text x ∷ l) (fronts k xs y.0 t (subst (λ f. AnswersBy (post f) k) (sym y.1.1) by) y.2)

  parts_run : (s : WStrSplitWith E F order) (f : F) (text : WStr E order) → split_rest s ≡ Some text → split_predicate s ≡ f → (k : ℕ → Bool) → AnswersBy (post f) k
      → EachRunFrom (split_steps post) s (λ p. ItemsMapTo p wstr_text (slice_split k (wstr_text text)))
  parts_run s f text is same k by p _ from =
      let kept : AnswersBy (post (split_predicate p.from)) k = subst (λ g. AnswersBy (post g) k) (sym (ap split_predicate from ∙ same)) by in
      let left = (took p).0 in
      let none : p.whole ≡ true → length (parts_of k (option_map wstr_text (split_rest left))) ≡ 0 =
      λ w. ap length (gives-none (post (split_predicate left)) k (option_map wstr_text (split_rest left)) (option_map wstr_text (split_rest ((took p).2 w).0)) ((took p).2 w).1.0) in
      let cut : slice_split k (wstr_text text) ≡ map wstr_text p.items ++ parts_of k (option_map wstr_text (split_rest left)) =
      sym (ap (λ o. parts_of k (option_map wstr_text o)) (ap split_rest from ∙ is)) ∙ fronts k p.items p.from left kept (took p).1 in
      lists p wstr_text (slice_split k (wstr_text text)) (parts_of k (option_map wstr_text (split_rest left))) none cut

  pub split_runs : (s : WStrSplitWith E F order) (f : F) (text : WStr E order) → split_rest s ≡ Some text → split_predicate s ≡ f
      → EachRunFrom (split_steps post) s (λ p. SplitsText p wstr_text (post f) (wstr_text text))
  split_runs s f text is same p seen from =
      let all = λ (k : ℕ → Bool) (by : AnswersBy (post f) k). parts_run s f text is same k by p seen from in
      (λ k by. (all k by).4, λ k by. (all k by).1, all)

  -- ---- from the back
  backs : (k : ℕ → Bool) (xs : List (WStr E order)) (s t : WStrSplitWith E F order) → AnswersBy (post (split_predicate s)) k → Yields (split_steps_back post) s xs t
      → parts_of k (option_map wstr_text (split_rest s)) ≡ parts_of k (option_map wstr_text (split_rest t)) ++ reverse (map wstr_text xs)
  backs k [] s t by y = ap (λ it. parts_of k (option_map wstr_text (split_rest it))) y ∙ sym (append-nil (parts_of k (option_map wstr_text (split_rest t))))
  backs k (x ∷ xs) s t by y =
      gives_last-some (post (split_predicate s)) k by (option_map wstr_text (split_rest s)) (wstr_text x) (option_map wstr_text (split_rest y.0)) y.1.0
      ∙ ap (λ l. l ++ wstr_text x ∷ []) (backs k xs y.0 t (subst (λ f. AnswersBy (post f) k) (sym y.1.1) by) y.2)
      ∙ append_assoc (parts_of k (option_map wstr_text (split_rest t))) (reverse (map wstr_text xs)) (wstr_text x ∷ [])
      ∙ ap (λ l. parts_of k (option_map wstr_text (split_rest t)) ++ l) (sym (reverse-append (wstr_text x ∷ []) (map wstr_text xs)))

  parts_run_back : (s : WStrSplitWith E F order) (f : F) (text : WStr E order) → split_rest s ≡ Some text → split_predicate s ≡ f → (k : ℕ → Bool) → AnswersBy (post f) k
      → EachRunFrom (split_steps_back post) s (λ p. ItemsMapToReversed p wstr_text (slice_split k (wstr_text text)))
  parts_run_back s f text is same k by p _ from =
      let kept : AnswersBy (post (split_predicate p.from)) k = subst (λ g. AnswersBy (post g) k) (sym (ap split_predicate from ∙ same)) by in
      let left = (took p).0 in
      let none : p.whole ≡ true → length (parts_of k (option_map wstr_text (split_rest left))) ≡ 0 =
      λ w. ap length (gives_last-none (post (split_predicate left)) k (option_map wstr_text (split_rest left)) (option_map wstr_text (split_rest ((took p).2 w).0)) ((took p).2 w).1.0) in
      let cut : slice_split k (wstr_text text) ≡ parts_of k (option_map wstr_text (split_rest left)) ++ reverse (map wstr_text p.items) =
      sym (ap (λ o. parts_of k (option_map wstr_text o)) (ap split_rest from ∙ is)) ∙ backs k p.items p.from left kept (took p).1 in
      lists_back p wstr_text (slice_split k (wstr_text text)) (parts_of k (option_map wstr_text (split_rest left))) none cut

  pub split_runs_back : (s : WStrSplitWith E F order) (f : F) (text : WStr E order) → split_rest s ≡ Some text → split_predicate s ≡ f
      → EachRunFrom (split_steps_back post) s (λ p. SplitsTextBack p wstr_text (post f) (wstr_text text))
  split_runs_back s f text is same p seen from =
      let all = λ (k : ℕ → Bool) (by : AnswersBy (post f) k). parts_run_back s f text is same k by p seen from in
      (λ k by. (all k by).4, all)
