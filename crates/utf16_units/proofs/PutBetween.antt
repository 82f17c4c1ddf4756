-- An element inserted into a list between those before it and those after it.
use Rattle.std.proofs.Common.{◌≡◌, ℕ, ◌+◌, ◌-◌, ◌<◌, ◌≤◌, ◌⊎◌, inl, inr, List, [], ◌∷◌, ◌++◌, get_or, length, ap, sym, ◌∙◌, arith, zero-add}
use Rattle.std.proofs.lemmas.Bool.{cases_lt}
use Rattle.std.proofs.lemmas.List.{map-id}
use Rattle.std.proofs.lemmas.List.Edits.{get_or-insert_above, get_or-insert_at, get_or-insert_below, length-insert}
use Rattle.std.proofs.lemmas.List.FromFn.{map-range_with_len_more}
use Rattle.std.specs.List.{AllPairs, AllWithin, insert, range_with_len}

insert_cases : {X : Type 0} (xs : List X) (i : ℕ) (y : X) (k : ℕ) (d : X) → i ≤ length xs
    → ((k < i) × (get_or (insert xs i y) k d ≡ get_or xs k d))
    ⊎ (((k ≡ i) × (get_or (insert xs i y) k d ≡ y)) ⊎ ((h : ℕ) × ((k ≡ h + 1) × (i ≤ h) × (get_or (insert xs i y) k d ≡ get_or xs h d))))
insert_cases xs i y k d within =
    elim (cases_lt k i) [
      | inl lt ↦ inl (lt, get_or-insert_below xs i y d k lt within)
      | inr ge ↦ elim (cases_lt i k) [
        | inl gt ↦
            let next : k ≡ k - 1 + 1 = omega arith in
            inr (inr (k - 1, (next, omega arith, ap (λ n. get_or (insert xs i y) n d) next ∙ get_or-insert_above xs i y d (k - 1) (omega arith) within)))
        | inr le ↦ let here : k ≡ i = omega arith in inr (inl (here, ap (λ n. get_or (insert xs i y) n d) here ∙ get_or-insert_at xs i y d within))
      ]
    ]

pub all_pairs_insert : {X : Type 0} (R : X → X → Type 0) (xs : List X) (i : ℕ) (y : X) → i ≤ length xs → AllPairs R xs
    → AllWithin (λ x. R x y) xs 0 i → AllWithin (R y) xs i (length xs) → AllPairs R (insert xs i y)
all_pairs_insert R xs i y within pairs smaller larger a b d before inside =
    let long = length-insert xs i y within in
    elim (insert_cases xs i y a d within) [
      | inl at ↦ elim (insert_cases xs i y b d within) [
        | inl bt ↦ rw (at.1, bt.1) (pairs a b d before (omega arith))
        | inr (inl bt) ↦ rw (at.1, bt.1) (smaller a d (omega arith) at.0)
        | inr (inr bt) ↦ rw (at.1, bt.1.2) (pairs a bt.0 d (omega arith) (omega arith))
      ]
      | inr (inl at) ↦ elim (insert_cases xs i y b d within) [
        | inl bt ↦ absurd (omega arith)
        | inr (inl bt) ↦ absurd (omega arith)
        | inr (inr bt) ↦ rw (at.1, bt.1.2) (larger bt.0 d bt.1.1 (omega arith))
      ]
      | inr (inr at) ↦ elim (insert_cases xs i y b d within) [
        | inl bt ↦ absurd (omega arith)
        | inr (inl bt) ↦ absurd (omega arith)
        | inr (inr bt) ↦ rw (at.1.2, bt.1.2) (pairs at.0 bt.0 d (omega arith) (omega arith))
      ]
    ]

-- with one number more
pub range_more : (n : ℕ) → range_with_len 0 (n + 1) ≡ range_with_len 0 n ++ n ∷ []
range_more n = sym (map-id _) ∙ map-range_with_len_more (λ x. x) 0 n n (zero-add n) ∙ ap (λ t. t ++ n ∷ []) (map-id _)
