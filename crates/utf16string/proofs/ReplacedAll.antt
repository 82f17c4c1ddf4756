-- How many matches a text has at most.
use Rattle.std.proofs.Common.{◌≡◌, ℕ, zero, suc, ◌*◌, ◌<◌, ◌≤◌, Bool, true, false, List, [], ◌∷◌, ◌++◌, length, drop, nat_eq, Option, None, Some, refl, ap, arith, if◌then◌else◌, option_map, length-drop}
use Rattle.std.specs.List.{starts_with}
use Rattle.utf16_units.specs.Encoding.{size}
use Rattle.utf16_units.proofs.BoundaryLemmas.{char_size-pos}
use Rattle.utf16_units.proofs.EncodingLemmas.{size-cons, size-nil}
use Rattle.utf16string.specs.Replace.{around_match, put_around, replaced_first}

-- what follows a match is shorter than the text
second : Option (List ℕ × List ℕ) → List ℕ
second None = []
second (Some around) = around.1

shorter-step : (part : List ℕ) (c : ℕ) (text : List ℕ) (here : Bool) (later : Option (List ℕ × List ℕ)) (around : List ℕ × List ℕ)
    → ((a : List ℕ × List ℕ) → later ≡ Some a → length a.1 < length text)
    → (if here then Some ([], drop (length part) text) else option_map (λ a. (c ∷ a.0, a.1)) later) ≡ Some around → length around.1 ≤ length text
unfolding second
shorter-step part c text true later around below e = omega (arith, ap (λ o. length (second o)) e, length-drop (length part) text)
shorter-step part c text false None around below e = absurd cc
shorter-step part c text false (Some a) around below e = omega (arith, ap (λ o. length (second o)) e, below a refl)

shorter : (p : ℕ) (part text : List ℕ) (around : List ℕ × List ℕ) → around_match (p ∷ part) text ≡ Some around → length around.1 < length text
unfolding around_match
shorter p part [] around e = absurd cc
shorter p part (c ∷ text) around e =
    let few = shorter-step part c text (starts_with nat_eq (c ∷ text) (p ∷ part)) (around_match (p ∷ part) text) around (shorter p part text) e in
    omega arith

put-same : (to : List ℕ) (after other : List ℕ → List ℕ) (text : List ℕ) (o : Option (List ℕ × List ℕ))
    → ((around : List ℕ × List ℕ) → o ≡ Some around → after around.1 ≡ other around.1) → put_around to after text o ≡ put_around to other text o
put-same to after other text None same = refl
put-same to after other text (Some around) same = ap (λ t. around.0 ++ (to ++ t)) (same around refl)

-- more matches than a text has characters are all
pub replaced-all : (m n : ℕ) (part to text : List ℕ) → length text < m → length text < n → replaced_first m part to text ≡ replaced_first n part to text
unfolding replaced_first
replaced-all zero n part to text few many = absurd (omega arith)
replaced-all (suc m) zero part to text few many = absurd (omega arith)
replaced-all (suc m) (suc n) [] to [] few many = refl
replaced-all (suc m) (suc n) [] to (c ∷ text) few many = ap (λ t. to ++ (c ∷ t)) (replaced-all m n [] to text (omega arith) (omega arith))
replaced-all (suc m) (suc n) (p ∷ part) to text few many =
    put-same to (replaced_first m (p ∷ part) to) (replaced_first n (p ∷ part) to) text (around_match (p ∷ part) text)
    (λ around e. let few' = shorter p part text around e in replaced-all m n (p ∷ part) to around.1 (omega arith) (omega arith))

-- a character has at least two bytes
pub size-double : (text : List ℕ) → 2 * length text ≤ size text
size-double [] = omega (arith, size-nil)
size-double (c ∷ text) = omega (arith, size-cons c text, char_size-pos c, size-double text)
