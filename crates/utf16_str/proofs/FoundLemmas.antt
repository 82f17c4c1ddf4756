-- Whether a part occurs in a text, and the text before and after its first occurrence, computed.
use Rattle.std.proofs.Common.{◌≡◌, ℕ, ◌+◌, Bool, true, false, cond, ◌||◌, List, [], ◌∷◌, ◌++◌, Option, None, Some, length, drop, nat_eq, refl, sym, ap, ◌∙◌, arith, append_assoc, IsTrue, ◌↔◌}
use Rattle.std.proofs.Math.Seq.{drop-append-add, drop-append_seam}
use Rattle.std.proofs.lemmas.Bool.{false≢true}
use Rattle.std.proofs.lemmas.List.{drop_all}
use Rattle.std.specs.List.{starts_with}
use Rattle.std.specs.Option.{is_some}
use Rattle.utf16_units.specs.Boundary.{OccursIn, text_from, text_to}
use Rattle.utf16_units.specs.Encoding.{size}
use Rattle.utf16_bytes.specs.Occurrence.{IsFirst}
use Rattle.utf16_bytes.proofs.OccurrenceLemmas.{text_around}
use Rattle.utf16_str.specs.Found.{after_part, before_part, has_part, occurs, text_before}
use Rattle.utf16_str.specs.Substrings.{IsBeforeFirst, LacksPart}
use Rattle.utf16_str.proofs.CharFound.{around, found, lacks-any, or-true, whole}
use Rattle.utf16_str.proofs.FirstLemmas.{lacks_part}
use Rattle.utf16_str.proofs.PartLemmas.{Absent, NoneEarlier, begins, not_begun}

-- ---- a part that is not empty
occurs-not : (part text : List ℕ) → Absent part text → occurs part text ≡ false
unfolding occurs
occurs-not part [] none = refl
occurs-not part (c ∷ text) none =
    ap (λ b. b || occurs part text) (not_begun part (c ∷ text) (λ more. none [] more) (starts_with nat_eq (c ∷ text) part) refl)
    ∙ occurs-not part text (λ front back e. none (c ∷ front) back (ap (λ t. c ∷ t) e))

module _ (c : ℕ) (p : List ℕ) where
  abbrev part : List ℕ
  part = c ∷ p

  here : (back : List ℕ) → starts_with nat_eq (part ++ back) part ≡ true
  here back = (begins part (part ++ back) (starts_with nat_eq (part ++ back) part) refl).1 back refl

  occurs-there : (front back : List ℕ) → occurs part (front ++ (part ++ back)) ≡ true
  unfolding occurs
  occurs-there [] back = ap (λ b. b || occurs part (p ++ back)) (here back)
  occurs-there (d ∷ front) back =
      let text = front ++ (part ++ back) in
      ap (λ b. starts_with nat_eq (d ∷ text) part || b) (occurs-there front back) ∙ or-true (starts_with nat_eq (d ∷ text) part)

  before-at : (front text back : List ℕ) → text ≡ front ++ (part ++ back) → NoneEarlier part text front → text_before part text ≡ front
  unfolding text_before
  before-at [] text back is none = ap (text_before part) is ∙ ap (λ b. cond b [] (c ∷ text_before part (p ++ back))) (here back)
  before-at (d ∷ front) text back is none =
      let rest = front ++ (part ++ back) in
      let other : (more : List ℕ) → ¬ (d ∷ rest ≡ part ++ more) = λ more e. absurd (omega (arith, none [] more (is ∙ e))) in
      ap (text_before part) is
      ∙ ap (λ b. cond b [] (d ∷ text_before part rest)) (not_begun part (d ∷ rest) other (starts_with nat_eq (d ∷ rest) part) refl)
      ∙ ap (λ t. d ∷ t) (before-at front rest back refl (λ before more e. omega (arith, none (d ∷ before) more (is ∙ ap (λ t. d ∷ t) e))))

  after-at : (front text back : List ℕ) → text ≡ front ++ (part ++ back) → text_before part text ≡ front → drop (length (text_before part text) + length part) text ≡ back
  after-at front text back is before =
      ap (λ t. drop (length t + length part) text) before ∙ ap (drop (length front + length part)) is
      ∙ drop-append-add front (part ++ back) (length part) ∙ drop-append_seam part back

-- a text without the part is all before it
before-not : (part text : List ℕ) → Absent part text → text_before part text ≡ text
unfolding text_before
before-not part [] none = refl
before-not part (c ∷ text) none =
    ap (λ b. cond b [] (c ∷ text_before part text)) (not_begun part (c ∷ text) (λ more. none [] more) (starts_with nat_eq (c ∷ text) part) refl)
    ∙ ap (λ t. c ∷ t) (before-not part text (λ front back e. none (c ∷ front) back (ap (λ t. c ∷ t) e)))

-- ---- any part
has-not : (part text : List ℕ) → LacksPart part text → has_part part text ≡ false
has-not [] text lacks = absurd lacks
has-not (c ∷ []) text lacks = lacks-any c text lacks
has-not (c ∷ d ∷ part) text lacks = occurs-not (c ∷ d ∷ part) text lacks

pub has-there : (part text front back : List ℕ) → text ≡ front ++ (part ++ back) → has_part part text ≡ true
has-there [] text front back is = refl
has-there (c ∷ []) text front back is = ap (has_part (c ∷ [])) is ∙ found c front back
has-there (c ∷ d ∷ part) text front back is = ap (occurs (c ∷ d ∷ part)) is ∙ occurs-there c (d ∷ part) front back

pub around_part : (part text front back : List ℕ) → text ≡ front ++ (part ++ back) → IsBeforeFirst part text front
    → (before_part part text ≡ front) × (after_part part text ≡ back)
around_part [] text front back is first = (sym first, is ∙ ap (λ t. t ++ back) first)
around_part (c ∷ []) text front back is lacks =
    let at = around c front back lacks in
    (ap (before_part (c ∷ [])) is ∙ at.0, ap (after_part (c ∷ [])) is ∙ at.1)
around_part (c ∷ d ∷ part) text front back is first =
    let before = before-at c (d ∷ part) front text back is first in
    (before, after-at c (d ∷ part) front text back is before)

pub without_part : (part text : List ℕ) → LacksPart part text → (before_part part text ≡ text) × (after_part part text ≡ [])
without_part [] text lacks = absurd lacks
without_part (c ∷ []) text lacks = whole c text lacks
without_part (c ∷ d ∷ part) text lacks =
    let before = before-not (c ∷ d ∷ part) text lacks in
    (before, ap (λ t. drop (length t + length (c ∷ d ∷ part)) text) before ∙ drop_all (length text + length (c ∷ d ∷ part)) text (omega arith))

-- whether a search finds a part
pub found_is : (text part : List ℕ) (r : Option ℕ) → IsFirst (λ at. OccursIn text at part) r → is_some r ≡ has_part part text
found_is text part None none = sym (has-not part text (lacks_part part text none))
found_is text part (Some at) first =
    sym (has-there part text (text_to text at) (text_from text (at + size part)) (text_around text part at first.0 ∙ append_assoc (text_to text at) part (text_from text (at + size part))))

-- two tests of the same thing
pub same_answer : {P : Type 0} (a b : Bool) → (IsTrue a ↔ P) → (IsTrue b ↔ P) → a ≡ b
same_answer true true x y = refl
same_answer true false x y = absurd (false≢true (y.1 (x.0 refl)))
same_answer false true x y = absurd (false≢true (x.1 (y.0 refl)))
same_answer false false x y = refl
