-- The parts of a text on either side of a character at which it is split.
use Rattle.std.proofs.Common.{◌≡◌, ℕ, ◌<◌, Bool, true, false, cond, List, [], ◌∷◌, ◌++◌, length, refl, ap, ◌∙◌, arith}
use Rattle.std.proofs.lemmas.List.Splits.{length-slice_split, slice_split-cons_yes}
use Rattle.std.specs.List.{onto_first, slice_split}

onto-append : (c : ℕ) (parts more : List (List ℕ)) → 0 < length parts → onto_first c (parts ++ more) ≡ onto_first c parts ++ more
onto-append c [] more some = absurd (omega (arith, some))
onto-append c (part ∷ parts) more some = refl

around-next : (test : Bool) (c : ℕ) (whole front back : List (List ℕ)) → whole ≡ front ++ back → 0 < length front
    → cond test ([] ∷ whole) (onto_first c whole) ≡ cond test ([] ∷ front) (onto_first c front) ++ back
around-next true c whole front back is some = ap (λ parts. [] ∷ parts) is
around-next false c whole front back is some = ap (onto_first c) is ∙ onto-append c front back some

pub split-around : (p : ℕ → Bool) (front : List ℕ) (c : ℕ) (back : List ℕ) → p c ≡ true → slice_split p (front ++ c ∷ back) ≡ slice_split p front ++ slice_split p back
split-around p [] c back passes = slice_split-cons_yes p c back passes
split-around p (d ∷ front) c back passes =
    around-next (p d) d (slice_split p (front ++ c ∷ back)) (slice_split p front) (slice_split p back) (split-around p front c back passes)
    (omega (arith, length-slice_split p front))

pub some-parts : (p : ℕ → Bool) (text : List ℕ) → 0 < length (slice_split p text)
some-parts p text = omega (arith, length-slice_split p text)
