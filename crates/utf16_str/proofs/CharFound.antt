-- A text around the first occurrence of a character, in std's words.
use Rattle.std.proofs.Common.{◌≡◌, ◌≢◌, ℕ, ◌+◌, Bool, true, false, cond, not, ◌||◌, eqb, List, [], ◌∷◌, ◌++◌, length, take, drop, arith, refl, ap, ◌∙◌}
use Rattle.std.proofs.Math.Seq.{drop-append-add, take-append_seam}
use Rattle.std.proofs.lemmas.Bool.{eq-eqb, ne_eqb}
use Rattle.std.proofs.lemmas.List.{drop_all, take_all}
use Rattle.std.proofs.lemmas.List.Elements.{All-head, All-tail}
use Rattle.std.specs.List.{after_first, before_first, list_any, position_or_len}
use Rattle.utf16_units.specs.Delimited.{Lacks}

pub or-true : (b : Bool) → (b || true) ≡ true
or-true true = refl
or-true false = refl

module _ (d : ℕ) where
  place : (front back : List ℕ) → Lacks d front → position_or_len (λ c. eqb c d) (front ++ d ∷ back) ≡ length front
  place [] back lacks = ap (λ b. cond (not b) (1 + position_or_len (λ c. eqb c d) back) 0) (eq-eqb d d refl)
  place (c ∷ front) back lacks =
      let more = place front back (All-tail (λ x. x ≢ d) c front lacks) in
      ap (λ b. cond (not b) (1 + position_or_len (λ x. eqb x d) (front ++ d ∷ back)) 0) (ne_eqb c d (All-head (λ x. x ≢ d) c front lacks)) ∙ omega arith

  pub found : (front back : List ℕ) → list_any (λ c. eqb c d) (front ++ d ∷ back) ≡ true
  found [] back = ap (λ b. b || list_any (λ c. eqb c d) back) (eq-eqb d d refl)
  found (c ∷ front) back = ap (λ b. eqb c d || b) (found front back) ∙ or-true (eqb c d)

  pub around : (front back : List ℕ) → Lacks d front
      → (before_first (λ c. eqb c d) (front ++ d ∷ back) ≡ front) × (after_first (λ c. eqb c d) (front ++ d ∷ back) ≡ back)
  around front back lacks =
      let at = place front back lacks in
      let text = front ++ d ∷ back in
      (ap (λ n. take n text) at ∙ take-append_seam front (d ∷ back), ap (λ n. drop (n + 1) text) at ∙ drop-append-add front (d ∷ back) 1)

  lacking : (text : List ℕ) → Lacks d text → (position_or_len (λ c. eqb c d) text ≡ length text) × (list_any (λ c. eqb c d) text ≡ false)
  lacking [] lacks = (refl, refl)
  lacking (c ∷ text) lacks =
      let here = ne_eqb c d (All-head (λ x. x ≢ d) c text lacks) in
      let more = lacking text (All-tail (λ x. x ≢ d) c text lacks) in
      (ap (λ b. cond (not b) (1 + position_or_len (λ x. eqb x d) text) 0) here ∙ omega arith, ap (λ b. b || list_any (λ x. eqb x d) text) here ∙ more.1)

  pub lacks-any : (text : List ℕ) → Lacks d text → list_any (λ c. eqb c d) text ≡ false
  lacks-any text lacks = (lacking text lacks).1

  pub whole : (text : List ℕ) → Lacks d text → (before_first (λ c. eqb c d) text ≡ text) × (after_first (λ c. eqb c d) text ≡ [])
  whole text lacks =
      let none = (lacking text lacks).0 in
      (ap (λ n. take n text) none ∙ take_all (length text) text (omega arith), ap (λ n. drop (n + 1) text) none ∙ drop_all (length text + 1) text (omega arith))
