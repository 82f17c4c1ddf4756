-- The substrings between occurrences of a part, one by one.
use Rattle.std.proofs.Common.{◌≡◌, ℕ, ◌-◌, ◌≤◌, Bool, true, false, cond, List, [], ◌∷◌, ◌++◌, length, drop, nat_eq, refl, sym, ap, ◌∙◌, arith}
use Rattle.std.proofs.lemmas.Bool.Decides.{Decides-eqb}
use Rattle.std.proofs.lemmas.Slice.Eq.{starts_is}
use Rattle.std.specs.List.{onto_first, starts_with}
use Rattle.utf16_str.specs.Substrings.{parts_between}

-- no occurrence of a part begins before the end of `front`
abbrev pub NoneEarlier : List ℕ → List ℕ → List ℕ → Type 0
NoneEarlier part text front = (other back : List ℕ) → text ≡ other ++ (part ++ back) → length front ≤ length other

abbrev pub Absent : List ℕ → List ℕ → Type 0
Absent part text = (front back : List ℕ) → ¬ (text ≡ front ++ (part ++ back))

-- whether a text begins with a part
pub begins : (part text : List ℕ) (test : Bool) → starts_with nat_eq text part ≡ test
    → (test ≡ true → text ≡ part ++ drop (length part) text) × ((rest : List ℕ) → text ≡ part ++ rest → test ≡ true)
begins part text test is = starts_is Decides-eqb text part test (sym is)

pub not_begun : (part text : List ℕ) → ((rest : List ℕ) → ¬ (text ≡ part ++ rest)) → (test : Bool) → starts_with nat_eq text part ≡ test → test ≡ false
not_begun part text none true is = absurd (none (drop (length part) text) ((begins part text true is).0 refl))
not_begun part text none false is = refl

pub at_char : (part : List ℕ) (c : ℕ) (text : List ℕ) (test : Bool) → starts_with nat_eq (c ∷ text) part ≡ test
    → parts_between part 0 (c ∷ text) ≡ cond test ([] ∷ parts_between part (length part - 1) text) (onto_first c (parts_between part 0 text))
unfolding parts_between
at_char part c text test is = ap (λ b. cond b ([] ∷ parts_between part (length part - 1) text) (onto_first c (parts_between part 0 text))) is

inside : (part passed back : List ℕ) → parts_between part (length passed) (passed ++ back) ≡ parts_between part 0 back
unfolding parts_between
inside part [] back = refl
inside part (c ∷ passed) back = inside part passed back

pub between-nil : (part : List ℕ) (n : ℕ) → parts_between part n [] ≡ [] ∷ []
unfolding parts_between
between-nil part n = refl

-- ---- the first substring
pub between-here : (c : ℕ) (p back : List ℕ) → parts_between (c ∷ p) 0 (c ∷ (p ++ back)) ≡ [] ∷ parts_between (c ∷ p) 0 back
between-here c p back =
    let part = c ∷ p in
    let long : length part - 1 ≡ length p = omega arith in
    at_char part c (p ++ back) true ((begins part (part ++ back) (starts_with nat_eq (part ++ back) part) refl).1 back refl)
    ∙ ap (λ n. [] ∷ parts_between part n (p ++ back)) long ∙ ap (λ ps. [] ∷ ps) (inside part p back)

pub between-first : (c : ℕ) (p front text back : List ℕ) → text ≡ front ++ (c ∷ (p ++ back)) → NoneEarlier (c ∷ p) text front
    → parts_between (c ∷ p) 0 text ≡ front ∷ parts_between (c ∷ p) 0 back
between-first c p [] text back is none = ap (parts_between (c ∷ p) 0) is ∙ between-here c p back
between-first c p (d ∷ front) text back is none =
    let part = c ∷ p in
    let rest = front ++ (part ++ back) in
    let other : (more : List ℕ) → ¬ (d ∷ rest ≡ part ++ more) = λ more e. absurd (omega (arith, none [] more (is ∙ e))) in
    ap (parts_between part 0) is ∙ at_char part d rest false (not_begun part (d ∷ rest) other (starts_with nat_eq (d ∷ rest) part) refl)
    ∙ ap (onto_first d) (between-first c p front rest back refl
    (λ before more e. omega (arith, none (d ∷ before) more (is ∙ ap (λ t. d ∷ t) e))))

-- ---- a text in which the part does not occur
pub between-last : (c : ℕ) (p text : List ℕ) → Absent (c ∷ p) text → parts_between (c ∷ p) 0 text ≡ text ∷ []
between-last c p [] none = between-nil (c ∷ p) 0
between-last c p (d ∷ text) none =
    at_char (c ∷ p) d text false (not_begun (c ∷ p) (d ∷ text) (λ more. none [] more) (starts_with nat_eq (d ∷ text) (c ∷ p)) refl)
    ∙ ap (onto_first d) (between-last c p text (λ front back e. none (d ∷ front) back (ap (λ t. d ∷ t) e)))
