-- The substrings between occurrences of any part, from the end.
use Rattle.std.proofs.Common.{◌≡◌, ◌≢◌, ℕ, ◌<◌, Bool, true, false, eqb, List, [], ◌∷◌, ◌++◌, length, map, reverse, refl, sym, ap, ◌∙◌, subst, arith, append_assoc, append-nil}
use Rattle.std.proofs.lemmas.List.{length-reverse, reverse-append, reverse-reverse}
use Rattle.std.specs.List.{slice_split}
use Rattle.utf16_units.proofs.DelimitedLemmas.{parts-last}
use Rattle.utf16_str.specs.Substrings.{IsAfterLast, LacksPart, parts_between, rparts_from, single_chars}
use Rattle.utf16_str.proofs.PartLemmas.{Absent, NoneEarlier, between-first, between-last}
use Rattle.utf16_str.proofs.SplitLemmas.{parts-last_one}

pub turned : (text front part back : List ℕ) → text ≡ front ++ (part ++ back) → reverse text ≡ reverse back ++ (reverse part ++ reverse front)
turned text front part back is =
    ap reverse is ∙ reverse-append front (part ++ back) ∙ ap (λ t. t ++ reverse front) (reverse-append part back)
    ∙ append_assoc (reverse back) (reverse part) (reverse front)

-- an occurrence in the reversed text is one in the text
back_turned : (text front part back : List ℕ) → reverse text ≡ front ++ (reverse part ++ back) → text ≡ reverse back ++ (part ++ reverse front)
back_turned text front part back is =
    sym (reverse-reverse text) ∙ turned (reverse text) front (reverse part) back is
    ∙ ap (λ t. reverse back ++ (t ++ reverse front)) (reverse-reverse part)

first-of_some : (part text front back : List ℕ) → 0 < length part → text ≡ front ++ (part ++ back) → NoneEarlier part text front
    → parts_between part 0 text ≡ front ∷ parts_between part 0 back
first-of_some [] text front back some is none = absurd (omega (arith, some))
first-of_some (c ∷ part) text front back some is none = between-first c part front text back is none

last-of_some : (part text : List ℕ) → 0 < length part → Absent part text → parts_between part 0 text ≡ text ∷ []
last-of_some [] text some none = absurd (omega (arith, some))
last-of_some (c ∷ part) text some none = between-last c part text none

pub rparts-cut : (part : List ℕ) (begun : Bool) (text front back : List ℕ) → text ≡ front ++ (part ++ back) → IsAfterLast part text back → (begun ≡ true → part ≢ [])
    → rparts_from part begun text ≡ back ∷ rparts_from part true front
rparts-cut [] true text front back is after may = absurd (may refl refl)
rparts-cut [] false text front back is after may =
    ap (λ t. [] ∷ map reverse (single_chars (reverse t))) (is ∙ ap (λ t. front ++ t) after ∙ append-nil front)
    ∙ ap (λ t. t ∷ map reverse (single_chars (reverse front))) (sym after)
rparts-cut (c ∷ []) begun text front back is after may =
    let parts = slice_split (λ d. eqb d c) front in
    ap reverse (parts-last_one c text front back is after) ∙ reverse-append parts (back ∷ [])
rparts-cut (c ∷ d ∷ part) begun text front back is after may =
    let whole = c ∷ d ∷ part in
    let earlier : NoneEarlier (reverse whole) (reverse text) (reverse back) =
    (λ other more e. omega (arith, after (reverse more) (reverse other) (back_turned text other whole more e), length-reverse other, length-reverse back)) in
    ap (map reverse) (first-of_some (reverse whole) (reverse text) (reverse back) (reverse front) (omega (arith, length-reverse whole)) (turned text front whole back is) earlier)
    ∙ ap (λ t. t ∷ map reverse (parts_between (reverse whole) 0 (reverse front))) (reverse-reverse back)

pub rparts-whole : (part : List ℕ) (begun : Bool) (text : List ℕ) → LacksPart part text → rparts_from part begun text ≡ text ∷ []
rparts-whole [] begun text lacks = absurd lacks
rparts-whole (c ∷ []) begun text lacks = ap reverse (parts-last c text lacks)
rparts-whole (c ∷ d ∷ part) begun text lacks =
    let whole = c ∷ d ∷ part in
    ap (map reverse) (last-of_some (reverse whole) (reverse text) (omega (arith, length-reverse whole)) (λ front back e. lacks (reverse back) (reverse front) (back_turned text front whole back e)))
    ∙ ap (λ t. t ∷ []) (reverse-reverse text)

-- the empty part occurs before each character, and not before the first
module _ (part : List ℕ) (begun : Bool) (none : part ≡ []) (is : begun ≡ true) where
  pub rparts-char : (c : ℕ) (text front : List ℕ) → text ≡ front ++ c ∷ [] → rparts_from part begun text ≡ (c ∷ []) ∷ rparts_from part true front
  rparts-char c text front last =
      subst (λ p. rparts_from p begun text ≡ (c ∷ []) ∷ rparts_from p true front) (sym none)
      (subst (λ b. rparts_from [] b text ≡ (c ∷ []) ∷ rparts_from [] true front) (sym is)
      (ap (λ t. map reverse (single_chars t)) (ap reverse last ∙ reverse-append front (c ∷ []))))

  pub rparts-none : (text : List ℕ) → text ≡ [] → rparts_from part begun text ≡ text ∷ []
  rparts-none text nil =
      subst (λ p. rparts_from p begun text ≡ text ∷ []) (sym none)
      (subst (λ b. rparts_from [] b text ≡ text ∷ []) (sym is)
      (ap (λ t. map reverse (single_chars (reverse t))) nil ∙ ap (λ t. t ∷ []) (sym nil)))
