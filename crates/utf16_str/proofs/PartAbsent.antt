-- No substring between occurrences of a part has the part in it.
use Rattle.std.proofs.Common.{◌≡◌, ℕ, zero, suc, ◌-◌, Bool, true, false, cond, List, [], ◌∷◌, ◌++◌, All, length, nat_eq, refl, ap, ◌∙◌, append_assoc}
use Rattle.std.proofs.lemmas.Bool.{false≢true}
use Rattle.std.proofs.lemmas.List.Elements.{All-cons, All-head, All-nil, All-tail}
use Rattle.std.specs.List.{onto_first, starts_with}
use Rattle.utf16_str.specs.Substrings.{parts_between}
use Rattle.utf16_str.proofs.PartLemmas.{Absent, begins}

abbrev head : List (List ℕ) → List ℕ
head [] = []
head (part ∷ parts) = part

-- the text begins with the first substring
head-next : (test : Bool) (c : ℕ) (text : List ℕ) (more parts : List (List ℕ)) → (rest : List ℕ) × (text ≡ head parts ++ rest)
    → (rest : List ℕ) × (c ∷ text ≡ head (cond test ([] ∷ more) (onto_first c parts)) ++ rest)
head-next true c text more parts begun = (c ∷ text, refl)
head-next false c text more [] begun = (text, refl)
head-next false c text more (part ∷ parts) begun = (begun.0, ap (λ t. c ∷ t) begun.1)

head-between : (part text : List ℕ) → (rest : List ℕ) × (text ≡ head (parts_between part 0 text) ++ rest)
unfolding parts_between
head-between part [] = ([], refl)
head-between part (c ∷ text) =
    head-next (starts_with nat_eq (c ∷ text) part) c text (parts_between part (length part - 1) text) (parts_between part 0 text) (head-between part text)

module _ (d : ℕ) (p : List ℕ) where
  abbrev part : List ℕ
  part = d ∷ p

  nil-absent : Absent part []
  nil-absent [] back e = absurd cc
  nil-absent (c ∷ front) back e = absurd cc

  cons-absent : (c : ℕ) (text first rest : List ℕ) → starts_with nat_eq (c ∷ text) part ≡ false → text ≡ first ++ rest → Absent part first → Absent part (c ∷ first)
  cons-absent c text first rest other is none [] back e =
      absurd (false≢true ((begins part (c ∷ text) false other).1 (back ++ rest)
      (ap (λ t. c ∷ t) is ∙ ap (λ t. t ++ rest) e ∙ append_assoc part back rest)))
  cons-absent c text first rest other is none (x ∷ front) back e =
      let tails : first ≡ front ++ (part ++ back) = cc in
      none front back tails

  onto-absent : (c : ℕ) (text : List ℕ) (parts : List (List ℕ)) (rest : List ℕ) → starts_with nat_eq (c ∷ text) part ≡ false → text ≡ head parts ++ rest
      → All (Absent part) parts → All (Absent part) (onto_first c parts)
  onto-absent c text [] rest other is all =
      All-cons (Absent part) (c ∷ []) [] (cons-absent c text [] rest other is nil-absent) (All-nil (Absent part))
  onto-absent c text (first ∷ parts) rest other is all =
      All-cons (Absent part) (c ∷ first) parts (cons-absent c text first rest other is (All-head (Absent part) first parts all)) (All-tail (Absent part) first parts all)

  next_absent : (test : Bool) (c : ℕ) (text : List ℕ) (more parts : List (List ℕ)) → starts_with nat_eq (c ∷ text) part ≡ test → (rest : List ℕ) × (text ≡ head parts ++ rest)
      → All (Absent part) more → All (Absent part) parts → All (Absent part) (cond test ([] ∷ more) (onto_first c parts))
  next_absent true c text more parts is begun later now = All-cons (Absent part) [] more nil-absent later
  next_absent false c text more parts is begun later now = onto-absent c text parts begun.0 is begun.1 now

  pub absent-between : (n : ℕ) (text : List ℕ) → All (Absent part) (parts_between part n text)
  unfolding parts_between
  absent-between zero [] = All-cons (Absent part) [] [] nil-absent (All-nil (Absent part))
  absent-between (suc n) [] = All-cons (Absent part) [] [] nil-absent (All-nil (Absent part))
  absent-between (suc n) (c ∷ text) = absent-between n text
  absent-between zero (c ∷ text) =
      next_absent (starts_with nat_eq (c ∷ text) part) c text (parts_between part (length part - 1) text) (parts_between part 0 text) refl (head-between part text)
      (absent-between (length part - 1) text) (absent-between 0 text)
