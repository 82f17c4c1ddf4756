-- A text cut at an offset that a search found.
use Rattle.std.proofs.Common.{◌≡◌, ℕ, Bool, true, false, List, [], ◌∷◌, ◌++◌, Option, None, Some, sym, ap, ◌∙◌, subst, append_assoc, append-nil}
use Rattle.std.specs.Iterator.{YieldsFirst}
use Rattle.utf16_units.specs.Boundary.{IsBoundary, text_from, text_to}
use Rattle.utf16_units.specs.Encoding.{size}
use Rattle.utf16_units.proofs.BoundaryLemmas.{text_from-at, text_to-at}
use Rattle.utf16_units.proofs.EncodingLemmas.{size-nil}
use Rattle.utf16_str.specs.Predicates.{IsCutWith, IsFirstAt, IsLastAt, IsLastCutWith, SaysOfEach}
use Rattle.utf16_str.proofs.PredicatePassed.{IsPassedBack}

pub boundary-at : (text front back : List ℕ) (at : ℕ) → text ≡ front ++ back → at ≡ size front → IsBoundary text at
boundary-at text front back at split offset = record { front = front; back = back; split = sym split; offset = sym offset }

module _ (says : ℕ → Bool → Type 0) (text : List ℕ) where
  pub found-back : (rest front : List ℕ) (c at : ℕ) → IsPassedBack says false text rest → rest ≡ front ++ c ∷ [] → at ≡ size front → says c true → IsLastAt says text at
  found-back rest front c at so_far is offset hit = record {
    front = front;
    found = c;
    back = so_far.back;
    split = so_far.split ∙ ap (λ t. t ++ so_far.back) is ∙ append_assoc front (c ∷ []) so_far.back;
    offset = offset;
    here = hit;
    after = so_far.passed;
  }

  pub boundary-first : (at : ℕ) → IsFirstAt says text at → IsBoundary text at
  boundary-first at found = boundary-at text found.front (found.found ∷ found.back) at found.split found.offset

  pub boundary-last : (at : ℕ) → IsLastAt says text at → IsBoundary text at
  boundary-last at found = boundary-at text found.front (found.found ∷ found.back) at found.split found.offset

-- an iterator over characters passes the first one that is left
next-is : (r : Option ℕ) (s t : List ℕ) (c : ℕ) (back : List ℕ) → YieldsFirst (λ (rest : List ℕ). rest) s r t → s ≡ c ∷ back → t ≡ back
next-is None s t c back gives is = absurd (cc (sym gives.0 ∙ is))
next-is (Some x) s t c back gives is =
    let both : x ∷ t ≡ c ∷ back = sym gives ∙ is in
    cc

-- the text is cut around the character at an offset
abbrev CutsAround : List ℕ → ℕ → List ℕ → List ℕ → Type 0
CutsAround text at part after =
    (front back : List ℕ) (c : ℕ) → text ≡ front ++ c ∷ back → at ≡ size front → (part ≡ front) × (after ≡ back)

pub cut-around : (text part rest after : List ℕ) (at : ℕ) (r : Option ℕ) → part ≡ text_to text at → rest ≡ text_from text at
    → YieldsFirst (λ (left : List ℕ). left) rest r after → CutsAround text at part after
cut-around text part rest after at r part_is rest_is gives front back c split offset = (
  part_is ∙ ap (λ t. text_to t at) split ∙ text_to-at front (c ∷ back) at (sym offset),
  next-is r rest after c back gives (rest_is ∙ ap (λ t. text_from t at) split ∙ text_from-at front (c ∷ back) at (sym offset)),
)

module _ (says : ℕ → Bool → Type 0) (text part after : List ℕ) (at : ℕ) (cuts : CutsAround text at part after) where
  joined : (front back : List ℕ) (c : ℕ) → text ≡ front ++ c ∷ back → (part ≡ front) × (after ≡ back) → text ≡ part ++ c ∷ after
  joined front back c split is = split ∙ ap (λ t. t ++ c ∷ back) (sym is.0) ∙ ap (λ t. part ++ c ∷ t) (sym is.1)

  pub cut-first : IsFirstAt says text at → IsCutWith says text part after
  cut-first found =
      let is = cuts found.front found.back found.found found.split found.offset in
      record {
        delimiter = found.found;
        split = joined found.front found.back found.found found.split is;
        before = subst (SaysOfEach says false) (sym is.0) found.before;
        here = found.here;
      }

  pub cut-last : IsLastAt says text at → IsLastCutWith says text part after
  cut-last found =
      let is = cuts found.front found.back found.found found.split found.offset in
      record {
        delimiter = found.found;
        split = joined found.front found.back found.found found.split is;
        here = found.here;
        after = subst (SaysOfEach says false) (sym is.1) found.after;
      }

-- ---- a text cut at its end, and at its start
pub cut-end : (text part rest : List ℕ) (at : ℕ) → at ≡ size text → part ≡ text_to text at → rest ≡ text_from text at → (part ≡ text) × (rest ≡ [])
cut-end text part rest at whole part_is rest_is = (
  part_is ∙ ap (λ t. text_to t at) (sym (append-nil text)) ∙ text_to-at text [] at (sym whole),
  rest_is ∙ ap (λ t. text_from t at) (sym (append-nil text)) ∙ text_from-at text [] at (sym whole),
)

pub cut-start : (text part rest : List ℕ) → part ≡ text_to text 0 → rest ≡ text_from text 0 → (part ≡ []) × (rest ≡ text)
cut-start text part rest part_is rest_is = (part_is ∙ text_to-at [] text 0 size-nil, rest_is ∙ text_from-at [] text 0 size-nil)
