-- A text split at each occurrence of a character: with that character after each part they are the
-- text followed by the character, which occurs in no part.
use Rattle.std.proofs.Common.{◌≡◌, ◌≢◌, ℕ, List, [], ◌∷◌, ◌++◌, All, eqb, refl, ap, ap₂, sym, ◌∙◌, subst, inl, inr}
use Rattle.std.proofs.lemmas.Bool.Decides.{eqb_tells}
use Rattle.std.proofs.lemmas.List.Elements.{All-cons, All-head, All-nil, All-tail}
use Rattle.std.proofs.lemmas.List.Splits.{slice_split-cons_no, slice_split-cons_yes}
use Rattle.std.specs.List.{onto_first, slice_split}
use Rattle.utf16_units.specs.Delimited.{Lacks, ended}

module _ (e : ℕ) where
  onto : (c : ℕ) (parts : List (List ℕ)) (text : List ℕ) → ended e parts ≡ text ++ e ∷ [] → ended e (onto_first c parts) ≡ c ∷ text ++ e ∷ []
  onto c [] [] is = absurd cc
  onto c [] (d ∷ text) is = absurd cc
  onto c (part ∷ parts) text is = ap (λ t. c ∷ t) is

  pub parts_ended : (text : List ℕ) → ended e (slice_split (λ c. eqb c e) text) ≡ text ++ e ∷ []
  parts_ended [] = refl
  parts_ended (c ∷ text) =
      elim (eqb_tells c e) [
        | inl end ↦ ap (ended e) (slice_split-cons_yes (λ c. eqb c e) c text end.0) ∙ ap₂ (λ d t. d ∷ t) (sym end.1) (parts_ended text)
        | inr other ↦ ap (ended e) (slice_split-cons_no (λ c. eqb c e) c text other.0) ∙ onto c (slice_split (λ c. eqb c e) text) text (parts_ended text)
      ]

  onto_lacks : (c : ℕ) (parts : List (List ℕ)) → c ≢ e → All (Lacks e) parts → All (Lacks e) (onto_first c parts)
  onto_lacks c [] is lack = All-cons (Lacks e) (c ∷ []) [] (All-cons (λ c. c ≢ e) c [] is (All-nil (λ c. c ≢ e))) lack
  onto_lacks c (part ∷ parts) is lack =
      All-cons (Lacks e) (c ∷ part) parts (All-cons (λ c. c ≢ e) c part is (All-head (Lacks e) part parts lack)) (All-tail (Lacks e) part parts lack)

  pub parts_lack : (text : List ℕ) → All (Lacks e) (slice_split (λ c. eqb c e) text)
  parts_lack [] = All-cons (Lacks e) [] [] (All-nil (λ c. c ≢ e)) (All-nil (Lacks e))
  parts_lack (c ∷ text) =
      elim (eqb_tells c e) [
        | inl end ↦ subst (All (Lacks e)) (sym (slice_split-cons_yes (λ c. eqb c e) c text end.0)) (All-cons (Lacks e) [] _ (All-nil (λ c. c ≢ e)) (parts_lack text))
        | inr other ↦ subst (All (Lacks e)) (sym (slice_split-cons_no (λ c. eqb c e) c text other.0)) (onto_lacks c _ other.1 (parts_lack text))
      ]
