-- The facts about lists that the callers need: sorted neighbors, a key found by its text, and
-- copies at the same places.
use Rattle.std.proofs.Common.{◌≡◌, ◌↔◌, ℕ, zero, suc, ◌+◌, ◌-◌, ◌<◌, Bool, true, false, List, [], ◌∷◌, Ordering, Less, Equal, Greater, IsTrue, length, map, slice_index_or, nat_cmp, refl, ap, ap₂, sym, subst, ◌∙◌, arith, is_eq, is_lt, true≢false}
use Rattle.std.proofs.lemmas.List.Folds.{Any-from_list_any, list_any-from_Any}
use Rattle.std.specs.Cmp.{Equal-is}
use Rattle.std.specs.Cmp.Lexicographic.{slice_cmp}
use Rattle.std.specs.List.{AllAdjacentBelow, AllPairs, AllZip, Any, IsAllAdjacentAnswer, list_any}
use Rattle.utf16_units.specs.Laws.{BeforeFollows}
use Rattle.utf16_units.specs.TextOrder.{IsBefore}
use Rattle.utf16_units.proofs.TextOrderLemmas.{Less-from_before, answers_Equal, answers_Less}

-- a transitive relation that holds for each two neighbors holds for each two items
module _ {X : Type 0} (R : X → X → Type 0) (follows : (x y z : X) → R x y → R y z → R x z) (xs : List X) (next : AllAdjacentBelow R xs (length xs)) where
  further : (i n : ℕ) (d : X) → i + n + 1 < length xs → R (slice_index_or xs i d) (slice_index_or xs (i + n + 1) d)
  further i zero d within =
      let here : i + 1 ≡ i + 0 + 1 = omega arith in
      subst (λ k. R (slice_index_or xs i d) (slice_index_or xs k d)) here (next i d (omega arith))
  further i (suc n) d within =
      let before : i + n + 1 ≡ i + suc n = omega arith in
      follows (slice_index_or xs i d) (slice_index_or xs (i + suc n) d) (slice_index_or xs (i + suc n + 1) d)
      (subst (λ k. R (slice_index_or xs i d) (slice_index_or xs k d)) before (further i n d (omega arith)))
      (next (i + suc n) d within)

  pub pairs : AllPairs R xs
  pairs i j d less within =
      let there : i + (j - i - 1) + 1 ≡ j = omega arith in
      subst (λ k. R (slice_index_or xs i d) (slice_index_or xs k d)) there (further i (j - i - 1) d (omega arith))

less_from : (o : Ordering) → true ≡ is_lt o → o ≡ Less
less_from Less e = refl
less_from Equal e = absurd (true≢false e)
less_from Greater e = absurd (true≢false e)

-- testing each two neighbors decides whether all items are sorted
module _ {X : Type 0} (text : X → List ℕ) (xs : List X) (follows : BeforeFollows) where
  pub ascending : (r : Bool) → IsAllAdjacentAnswer (λ x y b. b ≡ is_lt (slice_cmp nat_cmp (text x) (text y))) xs r
      → (IsTrue r ↔ AllPairs (λ x y. IsBefore (text x) (text y)) xs)
  ascending true answer = (
    λ yes. pairs (λ x y. IsBefore (text x) (text y)) (λ x y z. follows (text x) (text y) (text z)) xs
        (λ k d within. (answers_Less _ _ _ refl).0 (less_from _ (answer k d within))),
    λ all. refl,
  )
  ascending false answer = (
    λ yes. absurd (true≢false (sym yes)),
    λ all. some xs refl all,
  )
    where
      some : (ys : List X) → xs ≡ ys → AllPairs (λ x y. IsBefore (text x) (text y)) xs → false ≡ true
      some [] e all = let none = ap length e in absurd (omega (arith, answer.1))
      some (y ∷ ys) e all =
          let k = answer.0 in
          let b = all k (k + 1) y (omega arith) answer.1 in
          answer.2 y ∙ ap is_lt (Less-from_before _ _ b)

-- searching by the order finds a key exactly if an item has its text
pub known : {X : Type 0} (text : X → List ℕ) (name : List ℕ) (xs : List X) (r : Bool) → r ≡ list_any (λ x. is_eq (slice_cmp nat_cmp name (text x))) xs
    → (IsTrue r ↔ Any (λ x. text x ≡ name) xs)
known text name xs r is = (
  λ yes.
      let found = Any-from_list_any (λ x. is_eq (slice_cmp nat_cmp name (text x))) xs (sym is ∙ yes) in
      (found.0, found.1, found.2, found.3, sym ((answers_Equal name (text found.1) _ refl).0 ((Equal-is _).0 found.4))),
  λ found.
      is ∙ list_any-from_Any (λ x. is_eq (slice_cmp nat_cmp name (text x))) xs
      (found.0, found.1, found.2, found.3, (Equal-is _).1 ((answers_Equal name (text found.1) _ refl).1 (sym found.4))),
)

-- each copy has the text of the item at the same place
pub copied_texts : {X : Type 0} (text : X → List ℕ) (xs ys : List X) → AllZip (λ x y. text y ≡ text x) xs ys → map text ys ≡ map text xs
copied_texts text [] [] same = refl
copied_texts text [] (y ∷ ys) same = absurd same
copied_texts text (x ∷ xs) [] same = absurd same
copied_texts text (x ∷ xs) (y ∷ ys) same = ap₂ (λ t ts. t ∷ ts) same.0 (copied_texts text xs ys same.1)
