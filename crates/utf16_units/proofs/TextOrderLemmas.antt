-- The ordering of texts, computed.
use Rattle.std.proofs.Common.{◌≡◌, ◌↔◌, ℕ, ◌<◌, ◌⊎◌, List, [], ◌∷◌, ◌++◌, Ordering, Less, Equal, Greater, nat_cmp, refl, sym, ap, ap₂, ◌∙◌, subst, inl, inr}
use Rattle.std.specs.Cmp.{IsTotalOrder, nat_cmp_is, nat_cmp_total, ranks, tied_itself}
use Rattle.std.specs.Cmp.Lexicographic.{nat_list_cmp_total, slice_cmp}
use Rattle.std.specs.Ordering.{MatchOrdering, ordering_reverse, ordering_then}
use Rattle.utf16_units.specs.Laws.{BeforeFollows, BeforeTotal}
use Rattle.utf16_units.specs.TextOrder.{GoesFirst, IsBefore}

-- two texts that differ at once, and two with one more character before them
parted : (rest other : List ℕ) → GoesFirst rest other → IsBefore rest other
parted rest other first = record { common = []; rest = rest; other_rest = other; text_is = refl; other_is = refl; first = first }

before_behind : (c d : ℕ) (text other : List ℕ) → c ≡ d → IsBefore text other → IsBefore (c ∷ text) (d ∷ other)
before_behind c d text other same b = record {
  common = c ∷ b.common;
  rest = b.rest;
  other_rest = b.other_rest;
  text_is = ap (λ t. c ∷ t) b.text_is;
  other_is = ap₂ (λ e t. e ∷ t) (sym same) b.other_is;
  first = b.first;
}

ranked_then : (c d : ℕ) (text other : List ℕ) (o p : Ordering) → MatchOrdering o (c < d) (c ≡ d) (d < c)
    → MatchOrdering p (IsBefore text other) (text ≡ other) (IsBefore other text)
    → MatchOrdering (ordering_then o p) (IsBefore (c ∷ text) (d ∷ other)) (c ∷ text ≡ d ∷ other) (IsBefore (d ∷ other) (c ∷ text))
ranked_then c d text other Less p lower m = parted (c ∷ text) (d ∷ other) lower
ranked_then c d text other Greater p lower m = parted (d ∷ other) (c ∷ text) lower
ranked_then c d text other Equal Less same m = before_behind c d text other same m
ranked_then c d text other Equal Equal same m = ap₂ (λ e t. e ∷ t) same m
ranked_then c d text other Equal Greater same m = before_behind d c other text (sym same) m

-- the result of std's comparison of lists is the ordering of the texts
pub ranked_texts : (text other : List ℕ) → MatchOrdering (slice_cmp nat_cmp text other) (IsBefore text other) (text ≡ other) (IsBefore other text)
ranked_texts [] [] = refl
ranked_texts [] (d ∷ other) = parted [] (d ∷ other) tt
ranked_texts (c ∷ text) [] = parted [] (c ∷ text) tt
ranked_texts (c ∷ text) (d ∷ other) = ranked_then c d text other (nat_cmp c d) (slice_cmp nat_cmp text other) (ranks c d) (ranked_texts text other)

-- a common prefix does not change the result, in any ordering of lists
pub common_cmp : {K : Type 0} {R : K → K → Ordering} → IsTotalOrder R → (common xs ys : List K) → slice_cmp R (common ++ xs) (common ++ ys) ≡ slice_cmp R xs ys
common_cmp o [] xs ys = refl
common_cmp {K} {R} o (k ∷ common) xs ys =
    ap (λ r. ordering_then r (slice_cmp R (common ++ xs) (common ++ ys))) (tied_itself o k) ∙ common_cmp o common xs ys

first_Less : (rest other : List ℕ) → GoesFirst rest other → slice_cmp nat_cmp rest other ≡ Less
first_Less [] [] first = absurd first
first_Less (c ∷ rest) [] first = absurd first
first_Less [] (d ∷ other) first = refl
first_Less (c ∷ rest) (d ∷ other) first = ap (λ o. ordering_then o (slice_cmp nat_cmp rest other)) (sym (nat_cmp_is c d Less first))

pub Less-from_before : (text other : List ℕ) → IsBefore text other → slice_cmp nat_cmp text other ≡ Less
Less-from_before text other b =
    ap₂ (slice_cmp nat_cmp) b.text_is b.other_is ∙ common_cmp nat_cmp_total b.common b.rest b.other_rest ∙ first_Less b.rest b.other_rest b.first

pub Greater-from_before : (text other : List ℕ) → IsBefore other text → slice_cmp nat_cmp text other ≡ Greater
Greater-from_before text other b = nat_list_cmp_total.antisymm text other ∙ ap ordering_reverse (Less-from_before other text b)

-- the three results, each exactly if the texts compare so
module _ (text other : List ℕ) (answer : Ordering) (is : answer ≡ slice_cmp nat_cmp text other) where
  told : MatchOrdering answer (IsBefore text other) (text ≡ other) (IsBefore other text)
  told = subst (λ o. MatchOrdering o (IsBefore text other) (text ≡ other) (IsBefore other text)) (sym is) (ranked_texts text other)

  pub answers_Less : answer ≡ Less ↔ IsBefore text other
  answers_Less = (
    λ less. subst (λ o. MatchOrdering o (IsBefore text other) (text ≡ other) (IsBefore other text)) less told,
    λ b. is ∙ Less-from_before text other b,
  )

  pub answers_Equal : answer ≡ Equal ↔ (text ≡ other)
  answers_Equal = (
    λ equal. subst (λ o. MatchOrdering o (IsBefore text other) (text ≡ other) (IsBefore other text)) equal told,
    λ same. is ∙ ap (slice_cmp nat_cmp text) (sym same) ∙ tied_itself nat_list_cmp_total text,
  )

  pub answers_Greater : answer ≡ Greater ↔ IsBefore other text
  answers_Greater = (
    λ greater. subst (λ o. MatchOrdering o (IsBefore text other) (text ≡ other) (IsBefore other text)) greater told,
    λ b. is ∙ Greater-from_before text other b,
  )

-- ---- the laws

one_of : (o : Ordering) (P Q R : Type 0) → MatchOrdering o P Q R → P ⊎ (Q ⊎ R)
one_of Less P Q R p = inl p
one_of Equal P Q R q = inr (inl q)
one_of Greater P Q R r = inr (inr r)

pub before_total : BeforeTotal
before_total text other =
    let answer = slice_cmp nat_cmp text other in
    let less = answers_Less text other answer refl in
    let equal = answers_Equal text other answer refl in
    let greater = answers_Greater text other answer refl in
    record {
      some = one_of answer (IsBefore text other) (text ≡ other) (IsBefore other text) (ranked_texts text other);
      first_second = λ p q. let l = less.1 p in let e = equal.1 q in cc;
      first_third = λ p r. let l = less.1 p in let g = greater.1 r in cc;
      second_third = λ q r. let e = equal.1 q in let g = greater.1 r in cc;
    }

pub before_follows : BeforeFollows
before_follows text other third b c =
    (answers_Less text third (slice_cmp nat_cmp text third) refl).0
    (nat_list_cmp_total.trans text other third (Less-from_before text other b) (Less-from_before other third c))
