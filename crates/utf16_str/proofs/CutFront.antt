-- The substrings between occurrences of any part, from the front.
use Rattle.std.proofs.Common.{◌≡◌, ◌≢◌, ℕ, ◌<◌, Bool, true, false, List, [], ◌∷◌, ◌++◌, length, refl, sym, ap, ◌∙◌, subst, arith}
use Rattle.utf16_units.specs.Encoding.{size}
use Rattle.utf16_units.proofs.BoundaryLemmas.{char_size-pos}
use Rattle.utf16_units.proofs.DelimitedLemmas.{parts-first, parts-last}
use Rattle.utf16_units.proofs.EncodingLemmas.{size-cons, size-nil}
use Rattle.utf16_str.specs.Substrings.{IsBeforeFirst, LacksPart, parts_from, single_chars}
use Rattle.utf16_str.proofs.PartLemmas.{between-first, between-last}

-- a part without a size has no characters
pub no_part : (part : List ℕ) → size part ≡ 0 → part ≡ []
no_part [] none = refl
no_part (c ∷ part) none = absurd (omega (arith, none, size-cons c part, char_size-pos c))

pub no_size : (part : List ℕ) → part ≡ [] → size part ≡ 0
no_size part none = ap size none ∙ size-nil

-- and a part that has one has characters
pub long_part : (part : List ℕ) → (size part ≡ 0 → ⊥) → 0 < length part
long_part [] some = absurd (some size-nil)
long_part (c ∷ part) some = omega arith

pub parts-cut : (part : List ℕ) (begun : Bool) (text front back : List ℕ) → text ≡ front ++ (part ++ back) → IsBeforeFirst part text front → (begun ≡ true → part ≢ [])
    → parts_from part begun text ≡ front ∷ parts_from part true back
parts-cut [] true text front back is before may = absurd (may refl refl)
parts-cut [] false text front back is before may =
    ap (λ t. [] ∷ single_chars t) (is ∙ ap (λ f. f ++ back) before) ∙ ap (λ f. f ∷ single_chars back) (sym before)
parts-cut (c ∷ []) begun text front back is before may = parts-first c text front back is before
parts-cut (c ∷ d ∷ part) begun text front back is before may = between-first c (d ∷ part) front text back is before

pub parts-whole : (part : List ℕ) (begun : Bool) (text : List ℕ) → LacksPart part text → parts_from part begun text ≡ text ∷ []
parts-whole [] begun text lacks = absurd lacks
parts-whole (c ∷ []) begun text lacks = parts-last c text lacks
parts-whole (c ∷ d ∷ part) begun text lacks = between-last c (d ∷ part) text lacks

-- the empty part occurs after each character, and not after the last
module _ (part : List ℕ) (begun : Bool) (none : part ≡ []) (is : begun ≡ true) where
  pub parts-char : (c : ℕ) (text back : List ℕ) → text ≡ c ∷ back → parts_from part begun text ≡ (c ∷ []) ∷ parts_from part true back
  parts-char c text back first =
      subst (λ p. parts_from p begun text ≡ (c ∷ []) ∷ parts_from p true back) (sym none)
      (subst (λ b. parts_from [] b text ≡ (c ∷ []) ∷ parts_from [] true back) (sym is) (ap single_chars first))

  pub parts-none : (text : List ℕ) → text ≡ [] → parts_from part begun text ≡ text ∷ []
  parts-none text nil =
      subst (λ p. parts_from p begun text ≡ text ∷ []) (sym none)
      (subst (λ b. parts_from [] b text ≡ text ∷ []) (sym is) (ap single_chars nil ∙ ap (λ t. t ∷ []) (sym nil)))
