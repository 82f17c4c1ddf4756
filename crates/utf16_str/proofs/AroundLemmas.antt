-- The last character of a text.
use Rattle.std.proofs.Common.{◌≡◌, ◌≢◌, ℕ, List, [], ◌∷◌, ◌++◌, ap, refl, reverse, sym, ◌∙◌}
use Rattle.std.proofs.lemmas.List.{reverse-append}

-- a text is empty, or has a last character
pub record HasLast (text : List ℕ) : Type 0 where
  pub front : List ℕ
  pub last : ℕ
  pub split : text ≡ front ++ last ∷ []

pub last_of : (text : List ℕ) → text ≢ [] → HasLast text
last_of [] some = absurd (some refl)
last_of (c ∷ []) some = record { front = []; last = c; split = refl }
last_of (c ∷ d ∷ text) some =
    let more = last_of (d ∷ text) (λ none. absurd cc) in
    record { front = c ∷ more.front; last = more.last; split = ap (λ t. c ∷ t) more.split }

-- the empty text has none
pub no_last : (front : List ℕ) (c : ℕ) → [] ≡ front ++ c ∷ [] → ⊥
no_last [] c e = absurd cc
no_last (d ∷ front) c e = absurd cc

-- a text has one last character
pub one_end : (front : List ℕ) (c : ℕ) (other : List ℕ) (d : ℕ) → front ++ c ∷ [] ≡ other ++ d ∷ [] → c ≡ d
one_end front c other d e =
    let turned : reverse (front ++ c ∷ []) ≡ reverse (other ++ d ∷ []) = ap reverse e in
    let whole : c ∷ reverse front ≡ d ∷ reverse other = sym (reverse-append front (c ∷ [])) ∙ turned ∙ reverse-append other (d ∷ []) in
    cc
