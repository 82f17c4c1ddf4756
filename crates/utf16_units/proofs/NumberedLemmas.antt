-- Numbers kept sorted by their texts.
use Rattle.std.proofs.Common.{◌≡◌, ◌≢◌, ℕ, ◌+◌, ◌<◌, ◌≤◌, inl, inr, List, [], ◌∷◌, ◌++◌, All, Some, Less, Greater, get_or, length, nat_cmp, slice_get, refl, ap, sym, ◌∙◌, subst, subst₂, arith, zero-add}
use Rattle.std.proofs.lemmas.Bool.{cases_lt}
use Rattle.std.proofs.lemmas.List.{get_or_append_left, get_or_default, get_or_push, length_push}
use Rattle.std.proofs.lemmas.List.Elements.{All-contains, All-from_get_or, All-get_or, Contains-get_or}
use Rattle.std.proofs.lemmas.List.FromFn.{get_or-range_with_len, length-range_with_len}
use Rattle.std.proofs.lemmas.List.Quantifiers.{all_pairs_push}
use Rattle.std.proofs.lemmas.List.Sorted.{All-permutation, Contains-permutation, IsPermutation-cons, IsPermutation-insert, IsPermutation-refl, IsPermutation-to_front, IsPermutation-trans, length_permutation}
use Rattle.std.proofs.lemmas.Option.{get_or_from_slice_get}
use Rattle.std.specs.Cmp.Lexicographic.{slice_cmp}
use Rattle.std.specs.List.{AllWithin, Contains, insert, range_with_len}
use Rattle.utf16_units.specs.Encoding.{size}
use Rattle.utf16_units.specs.Numbered.{AreDistinct, IsSortOrder, IsPlace, IsPlaceWithin, IsTable, text_at}
use Rattle.utf16_units.specs.TextOrder.{IsBefore}
use Rattle.utf16_units.specs.Parts.{parts_of}
use Rattle.utf16_units.proofs.TextOrderLemmas.{answers_Greater, answers_Less, before_follows, before_total}
use Rattle.utf16_units.proofs.PartsLemmas.{ends_none, ends_push, length-parts, parts_none, parts_push}
use Rattle.utf16_units.proofs.PutBetween.{all_pairs_insert, range_more}

module _ (texts : List (List ℕ)) (order : List ℕ) (is : IsSortOrder texts order) where
  long : length order ≡ length texts
  long = length_permutation _ order is.numbers ∙ length-range_with_len 0 (length texts)

  numbers : All (λ number. number < length texts) order
  numbers =
      All-permutation (λ number. number < length texts) _ order is.numbers
      (All-from_get_or (λ number. number < length texts) (range_with_len 0 (length texts)) 0
      (λ i within. omega (arith, length-range_with_len 0 (length texts), get_or-range_with_len 0 (length texts) i 0)))

  number_within : (place : ℕ) → place < length order → get_or order place 0 < length texts
  number_within place within = All-get_or (λ n. n < length texts) order place 0 within numbers

  -- what holds of the text in the middle holds of all before it, or of all after it
  smaller_to : (text other : List ℕ) (mid : ℕ) → mid < length order → slice_get texts (get_or order mid 0) ≡ Some other → IsBefore other text
      → AllWithin (λ number. IsBefore (text_at texts number) text) order 0 (mid + 1)
  smaller_to text other mid within got first k d _ below =
      let there : text_at texts (get_or order mid d) ≡ other = ap (text_at texts) (get_or_default order mid d 0 within) ∙ get_or_from_slice_get texts (get_or order mid 0) other [] got in
      elim (cases_lt k mid) [
        | inl lt ↦ before_follows _ _ _ (is.ascends k mid d lt within) (subst (λ t. IsBefore t text) (sym there) first)
        | inr ge ↦ let here : mid ≡ k = omega arith in subst (λ t. IsBefore t text) (sym there ∙ ap (λ i. text_at texts (get_or order i d)) here) first
      ]

  larger_from : (text other : List ℕ) (mid : ℕ) → mid < length order → slice_get texts (get_or order mid 0) ≡ Some other → IsBefore text other
      → AllWithin (λ number. IsBefore text (text_at texts number)) order mid (length order)
  larger_from text other mid within got first k d from below =
      let there : text_at texts (get_or order mid d) ≡ other = ap (text_at texts) (get_or_default order mid d 0 within) ∙ get_or_from_slice_get texts (get_or order mid 0) other [] got in
      elim (cases_lt mid k) [
        | inl lt ↦ before_follows _ _ _ (subst (IsBefore text) (sym there) first) (is.ascends mid k d lt below)
        | inr ge ↦ let here : mid ≡ k = omega arith in subst (IsBefore text) (sym there ∙ ap (λ i. text_at texts (get_or order i d)) here) first
      ]

  -- a text that has a place is not among the texts
  pub is_new : (text : List ℕ) (place : ℕ) → IsPlace texts order text place → All (λ other. other ≢ text) texts
  is_new text place at =
      let all = range_with_len 0 (length texts) in
      let differs : All (λ number. text_at texts number ≢ text) order = λ k d within. elim (cases_lt k place) [
        | inl lt ↦ (before_total _ text).first_second (at.smaller k d (omega arith) lt)
        | inr ge ↦ λ same. (before_total text _).first_second (at.larger k d ge within) (sym same)
      ] in
      All-from_get_or (λ other. other ≢ text) texts []
      (λ i within. All-contains (λ number. text_at texts number ≢ text) order i differs
      (Contains-permutation all order i is.numbers
      (subst (Contains all) (get_or-range_with_len 0 (length texts) i 0 within ∙ zero-add i)
      (Contains-get_or all i 0 (omega (arith, length-range_with_len 0 (length texts)))))))

  pub distinct_push : (text : List ℕ) (place : ℕ) → IsPlace texts order text place → AreDistinct texts → AreDistinct (texts ++ text ∷ [])
  distinct_push text place at distinct =
      all_pairs_push (λ x y. x ≢ y) texts text distinct (λ k d within. All-get_or (λ other. other ≢ text) texts k d within (is_new text place at))

  -- after one more text, inserting its number at that place keeps the order
  pub order_insert : (text : List ℕ) (place : ℕ) → IsPlace texts order text place → IsSortOrder (texts ++ text ∷ []) (insert order place (length texts))
  order_insert text place at =
      let n = length texts in
      let more = texts ++ text ∷ [] in
      let all = range_with_len 0 n in
      let last : get_or more n [] ≡ text = get_or_push texts text [] n refl in
      let same : (k d : ℕ) → k < length order → get_or more (get_or order k d) [] ≡ text_at texts (get_or order k d) =
      λ k d within. get_or_append_left texts (text ∷ []) [] (get_or order k d) (All-get_or (λ m. m < n) order k d within numbers) in
      record {
        numbers = rw (length_push texts text, range_more n)
            (IsPermutation-trans _ (n ∷ all) _ (IsPermutation-to_front all n)
            (IsPermutation-trans _ (n ∷ order) _ (IsPermutation-cons n all order is.numbers) (IsPermutation-insert order place n)));
        ascends = all_pairs_insert (λ a b. IsBefore (get_or more a []) (get_or more b [])) order place n at.within
            (λ i j d before inside. subst₂ IsBefore (sym (same i d (omega arith))) (sym (same j d inside)) (is.ascends i j d before inside))
            (λ k d from below. subst₂ IsBefore (sym (same k d (omega (arith, at.within)))) (sym last) (at.smaller k d from below))
            (λ k d from below. subst₂ IsBefore (sym last) (sym (same k d below)) (at.larger k d from below));
      }

-- binary search: at first the place can be any, each comparison leaves one side, and when nothing
-- is left the place is found
pub place_start : (texts : List (List ℕ)) (order text : List ℕ) → IsPlaceWithin texts order text 0 (length order)
place_start texts order text = record {
  ordered = omega arith;
  within = omega arith;
  smaller = λ k d from below. absurd (omega arith);
  larger = λ k d from below. absurd (omega arith);
}

pub place_behind : (texts : List (List ℕ)) (order text : List ℕ) (low high mid : ℕ) (other : List ℕ) → IsSortOrder texts order → IsPlaceWithin texts order text low high
    → mid < high → slice_get texts (get_or order mid 0) ≡ Some other → Less ≡ slice_cmp nat_cmp other text → IsPlaceWithin texts order text (mid + 1) high
place_behind texts order text low high mid other is at below got less = record {
  ordered = omega arith;
  within = at.within;
  smaller = smaller_to texts order is text other mid (omega arith) got ((answers_Less other text Less less).0 refl);
  larger = at.larger;
}

pub place_before : (texts : List (List ℕ)) (order text : List ℕ) (low high mid : ℕ) (other : List ℕ) → IsSortOrder texts order → IsPlaceWithin texts order text low high
    → low ≤ mid → mid < high → slice_get texts (get_or order mid 0) ≡ Some other → Greater ≡ slice_cmp nat_cmp other text → IsPlaceWithin texts order text low mid
place_before texts order text low high mid other is at from below got greater = record {
  ordered = from;
  within = omega arith;
  smaller = at.smaller;
  larger = larger_from texts order is text other mid (omega arith) got ((answers_Greater other text Greater greater).0 refl);
}

pub place_found : (texts : List (List ℕ)) (order text : List ℕ) (low high : ℕ) → IsPlaceWithin texts order text low high → high ≤ low → IsPlace texts order text low
place_found texts order text low high at none = let same : high ≡ low = omega arith in subst (IsPlaceWithin texts order text low) same at

-- the sorted numbers are the numbers of parts
pub number_of_part : (text ends order : List ℕ) (place : ℕ) → IsSortOrder (parts_of text ends) order → place < length order → get_or order place 0 < length ends
number_of_part text ends order place is within = omega (arith, length-parts text 0 ends, number_within (parts_of text ends) order is place within)

pub table_none : IsTable [] [] []
table_none = record {
  ends = ends_none;
  distinct = rw (parts_none []) (λ i j d before within. absurd (omega arith));
  order = rw (parts_none []) (record { numbers = IsPermutation-refl []; ascends = λ i j d before within. absurd (omega arith) });
}

pub table_insert : (text more ends order : List ℕ) (place : ℕ) → IsTable text ends order → IsPlace (parts_of text ends) order more place
    → IsTable (text ++ more) (ends ++ size (text ++ more) ∷ []) (insert order place (length ends))
table_insert text more ends order place table at =
    let parts = parts_of text ends in
    let all = parts_push text more ends table.ends in
    record {
      ends = ends_push text more ends table.ends;
      distinct = subst AreDistinct (sym all) (distinct_push parts order table.order more place at table.distinct);
      order = subst₂ IsSortOrder (sym all) (ap (insert order place) (length-parts text 0 ends)) (order_insert parts order table.order more place at);
    }
