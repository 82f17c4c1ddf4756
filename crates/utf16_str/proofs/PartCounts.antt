-- How many substrings there are between occurrences of a part, and that joined they are the text.
use Rattle.std.proofs.Common.{◌≡◌, ℕ, zero, suc, ◌+◌, ◌-◌, ◌<◌, ◌≤◌, Bool, true, false, cond, List, [], ◌∷◌, ◌++◌, length, drop, nat_eq, refl, sym, ap, ◌∙◌, arith, append_assoc, flat_map}
use Rattle.std.specs.List.{join_by, onto_first, starts_with}
use Rattle.utf16_str.specs.Substrings.{parts_between}
use Rattle.utf16_str.proofs.PartLemmas.{at_char, begins}

pub onto-some : (c : ℕ) (parts : List (List ℕ)) → 0 < length (onto_first c parts)
onto-some c [] = omega arith
onto-some c (part ∷ parts) = omega arith

onto-few : (c : ℕ) (parts : List (List ℕ)) → length (onto_first c parts) ≤ length parts + 1
onto-few c [] = omega arith
onto-few c (part ∷ parts) = omega arith

-- ---- one or more, and at most one more than the text has characters
abbrev pub Counted : ℕ → List (List ℕ) → Type 0
Counted most parts = (0 < length parts) × (length parts ≤ most)

module _ (part : List ℕ) where
  next_counted : (test : Bool) (c n : ℕ) (more parts : List (List ℕ)) → Counted n more → Counted n parts → Counted (n + 1) (cond test ([] ∷ more) (onto_first c parts))
  next_counted true c n more parts few same = (omega arith, omega (arith, few.1))
  next_counted false c n more parts few same = (onto-some c parts, omega (arith, onto-few c parts, same.1))

  pub count-between : (n : ℕ) (text : List ℕ) → Counted (length text + 1) (parts_between part n text)
  unfolding parts_between
  count-between n [] = (omega arith, omega arith)
  count-between (suc n) (c ∷ text) =
      let few = count-between n text in
      (few.0, omega (arith, few.1))
  count-between zero (c ∷ text) =
      let few = next_counted (starts_with nat_eq (c ∷ text) part) c (length text + 1) (parts_between part (length part - 1) text) (parts_between part 0 text)
      (count-between (length part - 1) text) (count-between 0 text) in
      (few.0, omega (arith, few.1))

-- ---- joined they are the text
abbrev pub joined : List ℕ → List (List ℕ) → List ℕ
joined part parts = join_by (λ text. text) part parts

onto-joined : (part : List ℕ) (c : ℕ) (parts : List (List ℕ)) → 0 < length parts → joined part (onto_first c parts) ≡ c ∷ joined part parts
onto-joined part c [] some = absurd (omega arith)
onto-joined part c (text ∷ parts) some = refl

pub after-joined : (part : List ℕ) (parts : List (List ℕ)) → 0 < length parts → flat_map (λ text. part ++ text) parts ≡ part ++ joined part parts
after-joined part [] some = absurd (omega arith)
after-joined part (text ∷ parts) some = append_assoc part text (flat_map (λ t. part ++ t) parts)

module _ (d : ℕ) (p : List ℕ) where
  abbrev part : List ℕ
  part = d ∷ p

  next_joined : (test : Bool) (c : ℕ) (text : List ℕ) → starts_with nat_eq (c ∷ text) part ≡ test
      → joined part (parts_between part (length p) text) ≡ drop (length p) text → joined part (parts_between part 0 text) ≡ text
      → joined part (cond test ([] ∷ parts_between part (length p) text) (onto_first c (parts_between part 0 text))) ≡ c ∷ text
  next_joined true c text is later now =
      after-joined part (parts_between part (length p) text) (count-between part (length p) text).0
      ∙ ap (λ t. part ++ t) later ∙ sym ((begins part (c ∷ text) true is).0 refl)
  next_joined false c text is later now =
      onto-joined part c (parts_between part 0 text) (count-between part 0 text).0 ∙ ap (λ t. c ∷ t) now

  pub join-between : (n : ℕ) (text : List ℕ) → joined part (parts_between part n text) ≡ drop n text
  unfolding parts_between
  join-between zero [] = refl
  join-between (suc n) [] = refl
  join-between (suc n) (c ∷ text) = join-between n text
  join-between zero (c ∷ text) =
      let long : length part - 1 ≡ length p = omega arith in
      ap (joined part) (at_char part c text (starts_with nat_eq (c ∷ text) part) refl)
      ∙ ap (λ n. joined part (cond (starts_with nat_eq (c ∷ text) part) ([] ∷ parts_between part n text) (onto_first c (parts_between part 0 text)))) long
      ∙ next_joined (starts_with nat_eq (c ∷ text) part) c text refl (join-between (length p) text) (join-between 0 text)
