-- What an iterator over a list has yielded is a prefix of the list.
use Rattle.std.proofs.Common.{◌≡◌, ℕ, List, [], ◌∷◌, ◌++◌, Option, Result, Ok, Err, OnErr, drop, flat_map, length, map, map-id, refl, sym, take, ap, ◌∙◌}
use Rattle.std.proofs.lemmas.Iterator.Consumers.{YieldsList-from_first, YieldsList-so_far}
use Rattle.std.proofs.lemmas.List.{take-append-drop}
use Rattle.std.specs.Iterator.{YieldsFirst, YieldsFirstBy, YieldsThen}

pub front_given : (it all front rest : List ℕ) (next : Option ℕ) → it ≡ all → YieldsThen (YieldsFirst (λ (xs : List ℕ). xs)) it front next rest → all ≡ front ++ drop (length front) all
front_given it all front rest next is then =
    let given = YieldsList-so_far (YieldsList-from_first (λ (x : ℕ). x) (λ (xs : List ℕ). xs) all is) front then.0 then.1 in
    sym (take-append-drop (length front) all) ∙ ap (λ xs. xs ++ drop (length front) all) (sym given ∙ map-id front)

-- the same for an iterator whose items have a text each
flat-map : {A : Type 0} (v : A → List ℕ) (xs : List A) → flat_map v xs ≡ flat_map (λ t. t) (map v xs)
flat-map v [] = refl
flat-map v (x ∷ xs) = ap (λ t. v x ++ t) (flat-map v xs)

pub texts_given : {A : Type 0} (v : A → List ℕ) (it all : List (List ℕ)) (front : List A) (rest : List (List ℕ)) (next : Option A) → it ≡ all
    → YieldsThen (YieldsFirstBy v (λ (xs : List (List ℕ)). xs)) it front next rest → flat_map v front ≡ flat_map (λ t. t) (take (length front) all)
texts_given v it all front rest next is then =
    flat-map v front ∙ ap (flat_map (λ t. t)) (YieldsList-so_far (YieldsList-from_first v (λ xs. xs) all is) front then.0 then.1)

-- what follows from a fact that an error leaves
pub err_so : {T E : Type 0} {P Q : Type 0} (r : Result T E) → OnErr r P → (P → Q) → OnErr r Q
err_so (Ok v) p so = tt
err_so (Err e) p so = so p
