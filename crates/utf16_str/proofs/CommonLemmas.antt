-- Two texts read in parallel, up to the first character that differs.
use Rattle.std.proofs.Common.{◌≡◌, ℕ, ◌+◌, Bool, true, false, not, nat_eq, List, [], ◌∷◌, ◌++◌, Option, None, Some, refl, sym, ap, ◌∙◌, subst, append_assoc, append-nil, arith, eqb-true, eq-eqb}
use Rattle.std.specs.Option.{MatchOption, option_eq}
use Rattle.utf16_units.specs.Boundary.{text_to}
use Rattle.utf16_units.specs.Encoding.{char_size, size}
use Rattle.utf16_units.proofs.BoundaryLemmas.{text_to-at}
use Rattle.utf16_units.proofs.EncodingLemmas.{size-append, size-cons, size-nil}
use Rattle.utf16_str.specs.Common.{IsCommonPrefix}
use Rattle.utf16_str.specs.Offsets.{char_offsets}
use Rattle.utf16_str.proofs.OffsetLemmas.{char_offsets-cons, next}

-- what was read is the same in both: the items left are the items of the rest of one text, and the
-- characters left are the rest of the other
pub record IsShared (text other : List ℕ) (items : List (ℕ × ℕ)) (theirs : List ℕ) : Type 0 where
  pub front : List ℕ
  pub rest : List ℕ
  pub split : text ≡ front ++ rest
  pub left : items ≡ char_offsets (size front) rest
  pub shared : other ≡ front ++ theirs

pub shared-start : (text other theirs : List ℕ) (items : List (ℕ × ℕ)) → items ≡ char_offsets 0 text → theirs ≡ other → IsShared text other items theirs
shared-start text other theirs items is same =
    record { front = []; rest = text; split = refl; left = is ∙ ap (λ n. char_offsets n text) (sym size-nil); shared = sym same }

pub shared-step : (text other theirs : List ℕ) (items : List (ℕ × ℕ)) (i c : ℕ) → IsShared text other ((i, c) ∷ items) (c ∷ theirs)
    → IsShared text other items theirs
shared-step text other theirs items i c so_far =
    let at = next items i c so_far.front so_far.rest so_far.left in
    let longer : size so_far.front + char_size c ≡ size (so_far.front ++ c ∷ []) = omega (arith, size-append so_far.front (c ∷ []), size-cons c [], size-nil) in
    record {
      front = so_far.front ++ c ∷ [];
      rest = at.0;
      split = so_far.split ∙ ap (λ t. so_far.front ++ t) at.1 ∙ sym (append_assoc so_far.front (c ∷ []) at.0);
      left = at.3 ∙ ap (λ n. char_offsets n at.0) longer;
      shared = so_far.shared ∙ sym (append_assoc so_far.front (c ∷ []) theirs);
    }

-- the other continues with another character, or ends
pub shared-stop : (text other theirs : List ℕ) (items : List (ℕ × ℕ)) (i c : ℕ) → IsShared text other ((i, c) ∷ items) theirs
    → ((more : List ℕ) → ¬ (theirs ≡ c ∷ more)) → IsCommonPrefix text other (text_to text i)
shared-stop text other theirs items i c so_far differs =
    let at = next items i c so_far.front so_far.rest so_far.left in
    let before : text_to text i ≡ so_far.front =
    ap (λ t. text_to t i) so_far.split ∙ text_to-at so_far.front so_far.rest i (sym at.2) in
    subst (IsCommonPrefix text other) (sym before) (record {
      rest = so_far.rest;
      other_rest = theirs;
      begins = so_far.split;
      other_begins = so_far.shared;
      differ = λ d more other_more is also. differs other_more (also ∙ ap (λ x. x ∷ other_more) (cc (sym is ∙ at.1)));
    })

nothing_left : (n : ℕ) (rest : List ℕ) → [] ≡ char_offsets n rest → rest ≡ []
nothing_left n [] is = refl
nothing_left n (c ∷ rest) is = absurd (cc (is ∙ char_offsets-cons n c rest))

-- the text has no more characters
pub shared-all : (text other theirs : List ℕ) → IsShared text other [] theirs → IsCommonPrefix text other text
shared-all text other theirs so_far =
    let none = nothing_left (size so_far.front) so_far.rest so_far.left in
    let whole : text ≡ so_far.front = so_far.split ∙ ap (λ r. so_far.front ++ r) none ∙ append-nil so_far.front in
    record {
      rest = [];
      other_rest = theirs;
      begins = sym (append-nil text);
      other_begins = so_far.shared ∙ ap (λ f. f ++ theirs) (sym whole);
      differ = λ d more other_more is. absurd (cc is);
    }

is_true : (b : Bool) → false ≡ not b → b ≡ true
is_true true e = refl
is_true false e = absurd cc

-- what the comparison with the other's next character implies
pub same_ahead : (r : Option ℕ) (c : ℕ) (theirs left : List ℕ) → false ≡ not (option_eq nat_eq r (Some c))
    → MatchOption r ((theirs ≡ []) × (left ≡ [])) (λ d. theirs ≡ d ∷ left) → theirs ≡ c ∷ left
same_ahead None c theirs left same steps = absurd cc
same_ahead (Some d) c theirs left same steps = steps ∙ ap (λ x. x ∷ left) (eqb-true d c (is_true (nat_eq d c) same))

pub other_ahead : (r : Option ℕ) (c : ℕ) (theirs left : List ℕ) → true ≡ not (option_eq nat_eq r (Some c))
    → MatchOption r ((theirs ≡ []) × (left ≡ [])) (λ d. theirs ≡ d ∷ left) → (more : List ℕ) → ¬ (theirs ≡ c ∷ more)
other_ahead None c theirs left other steps more is = absurd (cc (sym steps.0 ∙ is))
other_ahead (Some d) c theirs left other steps more is =
    let same : d ≡ c = cc (sym steps ∙ is) in
    absurd (cc (other, eq-eqb d c same))
