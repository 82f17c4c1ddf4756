-- The first match of a part in a text, by induction over the text.
use Rattle.std.proofs.Common.{◌≡◌, ℕ, ◌≤◌, Bool, true, false, List, [], ◌∷◌, ◌++◌, length, drop, nat_eq, Option, None, Some, refl, ap, ◌∙◌, arith, if◌then◌else◌, option_map}
use Rattle.std.proofs.Math.Seq.{drop-append_seam}
use Rattle.std.specs.List.{starts_with}
use Rattle.utf16_units.specs.Encoding.{size}
use Rattle.utf16_units.proofs.BoundaryLemmas.{char_size-pos}
use Rattle.utf16_units.proofs.EncodingLemmas.{size-cons, size-nil}
use Rattle.utf16_str.proofs.PartLemmas.{begins, not_begun}
use Rattle.utf16string.specs.Replace.{around_match}

-- whether a text begins with a part
begins_so : (part text rest : List ℕ) → text ≡ part ++ rest → starts_with nat_eq text part ≡ true
begins_so part text rest e = (begins part text (starts_with nat_eq text part) refl).1 rest e

begins_not : (part text : List ℕ) → ((rest : List ℕ) → ¬ (text ≡ part ++ rest)) → starts_with nat_eq text part ≡ false
begins_not part text never = not_begun part text never (starts_with nat_eq text part) refl

-- what `around_match` is for the empty text, and for others, by whether the part matches at once
abbrev at_end : Bool → Option (List ℕ × List ℕ)
at_end here = if here then Some ([], []) else None

abbrev at_char : List ℕ → ℕ → List ℕ → Bool → Option (List ℕ × List ℕ)
at_char part c text here =
    if here then Some ([], drop (length part) (c ∷ text)) else option_map (λ around. (c ∷ around.0, around.1)) (around_match part text)

abbrev start : List ℕ → Option (List ℕ × List ℕ)
start rest = Some ([], rest)

rest-nil : (part rest : List ℕ) → [] ≡ part ++ rest → [] ≡ rest
rest-nil [] rest e = e
rest-nil (p ∷ part) rest e = absurd cc

at_once : (part text rest : List ℕ) → text ≡ part ++ rest → around_match part text ≡ start rest
unfolding around_match
at_once part [] rest e = ap at_end (begins_so part [] rest e) ∙ ap start (rest-nil part rest e)
at_once part (c ∷ text) rest e = ap (at_char part c text) (begins_so part (c ∷ text) rest e) ∙ ap start (ap (drop (length part)) e ∙ drop-append_seam part rest)

-- a match that begins no later than any other is the first
pub first_match : (part front back : List ℕ) → ((f b : List ℕ) → front ++ (part ++ back) ≡ f ++ (part ++ b) → size front ≤ size f)
    → around_match part (front ++ (part ++ back)) ≡ Some (front, back)
unfolding around_match
first_match part [] back least = at_once part (part ++ back) back refl
first_match part (c ∷ front) back least =
    ap (at_char part c (front ++ (part ++ back)))
    (begins_not part (c ∷ front ++ (part ++ back)) (λ rest e. absurd (omega (arith, least [] rest e, size-nil, size-cons c front, char_size-pos c))))
    ∙ ap (option_map (λ around. (c ∷ around.0, around.1)))
    (first_match part front back (λ f b e. omega (arith, least (c ∷ f) b (ap (λ t. c ∷ t) e), size-cons c front, size-cons c f)))

pub no_match : (part text : List ℕ) → ((f b : List ℕ) → ¬ (text ≡ f ++ (part ++ b))) → around_match part text ≡ None
unfolding around_match
no_match part [] never = ap at_end (begins_not part [] (never []))
no_match part (c ∷ text) never =
    ap (at_char part c text) (begins_not part (c ∷ text) (never []))
    ∙ ap (option_map (λ around. (c ∷ around.0, around.1))) (no_match part text (λ f b e. never (c ∷ f) b (ap (λ t. c ∷ t) e)))
