-- What is made of the substrings between occurrences of a part, one by one.
use Rattle.std.proofs.Common.{◌≡◌, ℕ, zero, suc, ◌+◌, ◌-◌, ◌<◌, ◌≤◌, cond, eqb, false, List, [], ◌∷◌, ◌++◌, length, refl, ap, ap₂, arith, sym, ◌∙◌}
use Rattle.utf16_units.specs.Encoding.{size}
use Rattle.utf16_str.specs.Matches.{limited, match_offsets, rmatch_offsets, with_terminators, without_empty_last}

-- ---- the first ones
module _ (join : List (List ℕ) → List ℕ) where
  pub limited-one : (parts : List (List ℕ)) → 0 < length parts → limited join 1 parts ≡ join parts ∷ []
  limited-one [] some = absurd (omega (arith, some))
  limited-one (part ∷ parts) some = refl

  pub limited-more : (n less : ℕ) (part : List ℕ) (parts : List (List ℕ)) → n ≡ less + 1 → 0 < less → limited join n (part ∷ parts) ≡ part ∷ limited join less parts
  limited-more n zero part parts is some = absurd (omega (arith, some))
  limited-more n (suc less) part parts is some =
      let two : n ≡ suc (suc less) = omega (arith, is) in
      ap (λ k. limited join k (part ∷ parts)) two

  pub length-limited : (n : ℕ) (parts : List (List ℕ)) → length (limited join n parts) ≤ n
  length-limited zero parts = omega arith
  length-limited (suc n) [] = omega arith
  length-limited (suc zero) (part ∷ parts) = omega arith
  length-limited (suc (suc n)) (part ∷ parts) = omega (arith, length-limited (suc n) parts)

-- ---- without an empty last one, and with terminators
filled : (c : ℕ) (text : List ℕ) → eqb (length (c ∷ text)) 0 ≡ false
filled c text = grind arith

pub without-kept : (last : List ℕ) → ¬ (last ≡ []) → without_empty_last (last ∷ []) ≡ last ∷ []
without-kept [] some = absurd (some refl)
without-kept (c ∷ last) some = ap (λ b. cond b [] ((c ∷ last) ∷ [])) (filled c last)

pub without-more : (part : List ℕ) (parts : List (List ℕ)) → 0 < length parts → without_empty_last (part ∷ parts) ≡ part ∷ without_empty_last parts
without-more part [] some = absurd (omega (arith, some))
without-more part (next ∷ parts) some = refl

pub length-without : (parts : List (List ℕ)) → length (without_empty_last parts) ≤ length parts
length-without [] = omega arith
length-without ([] ∷ []) = omega arith
length-without ((c ∷ last) ∷ []) = omega (arith, ap length (without-kept (c ∷ last) (λ none. absurd cc)))
length-without (part ∷ next ∷ parts) = omega (arith, length-without (next ∷ parts))

module _ (part : List ℕ) where
  pub with-kept : (last : List ℕ) → ¬ (last ≡ []) → with_terminators part (last ∷ []) ≡ last ∷ []
  with-kept [] some = absurd (some refl)
  with-kept (c ∷ last) some = ap (λ b. cond b [] ((c ∷ last) ∷ [])) (filled c last)

  pub with-more : (text : List ℕ) (parts : List (List ℕ)) → 0 < length parts → with_terminators part (text ∷ parts) ≡ (text ++ part) ∷ with_terminators part parts
  with-more text [] some = absurd (omega (arith, some))
  with-more text (next ∷ parts) some = refl

  pub length-with : (parts : List (List ℕ)) → length (with_terminators part parts) ≤ length parts
  length-with [] = omega arith
  length-with ([] ∷ []) = omega arith
  length-with ((c ∷ last) ∷ []) = omega (arith, ap length (with-kept (c ∷ last) (λ none. absurd cc)))
  length-with (text ∷ next ∷ parts) = omega (arith, length-with (next ∷ parts))

  -- ---- the occurrences
  pub offsets-more : (offset : ℕ) (text : List ℕ) (parts : List (List ℕ)) → 0 < length parts
      → match_offsets part offset (text ∷ parts) ≡ (offset + size text, part) ∷ match_offsets part (offset + size text + size part) parts
  offsets-more offset text [] some = absurd (omega (arith, some))
  offsets-more offset text (next ∷ parts) some = refl

  pub roffsets-more : (end : ℕ) (text : List ℕ) (parts : List (List ℕ)) → 0 < length parts
      → rmatch_offsets part end (text ∷ parts) ≡ (end - size text - size part, part) ∷ rmatch_offsets part (end - size text - size part) parts
  roffsets-more end text [] some = absurd (omega (arith, some))
  roffsets-more end text (next ∷ parts) some = refl

  -- an iterator that yields an occurrence yields the first one
  pub offsets-step : (offset : ℕ) (text found : List ℕ) (parts : List (List ℕ)) (at next : ℕ) → 0 < length parts → at ≡ offset + size text → found ≡ part
      → next ≡ offset + size text + size part → match_offsets part offset (text ∷ parts) ≡ (at, found) ∷ match_offsets part next parts
  offsets-step offset text found parts at next some here is past =
      offsets-more offset text parts some
      ∙ ap₂ (λ i t. (i, t) ∷ match_offsets part (offset + size text + size part) parts) (sym here) (sym is)
      ∙ ap (λ n. (at, found) ∷ match_offsets part n parts) (sym past)

  pub roffsets-step : (end : ℕ) (text found : List ℕ) (parts : List (List ℕ)) (at next : ℕ) → 0 < length parts → at ≡ end - size text - size part → found ≡ part
      → next ≡ end - size text - size part → rmatch_offsets part end (text ∷ parts) ≡ (at, found) ∷ rmatch_offsets part next parts
  roffsets-step end text found parts at next some here is past =
      roffsets-more end text parts some
      ∙ ap₂ (λ i t. (i, t) ∷ rmatch_offsets part (end - size text - size part) parts) (sym here) (sym is)
      ∙ ap (λ n. (at, found) ∷ rmatch_offsets part n parts) (sym past)

  pub length-offsets : (offset : ℕ) (parts : List (List ℕ)) → length (match_offsets part offset parts) ≤ length parts
  length-offsets offset [] = omega arith
  length-offsets offset (text ∷ []) = omega arith
  length-offsets offset (text ∷ next ∷ parts) = omega (arith, length-offsets (offset + size text + size part) (next ∷ parts))

  pub length-roffsets : (end : ℕ) (parts : List (List ℕ)) → length (rmatch_offsets part end parts) ≤ length parts
  length-roffsets end [] = omega arith
  length-roffsets end (text ∷ []) = omega arith
  length-roffsets end (text ∷ next ∷ parts) = omega (arith, length-roffsets (end - size text - size part) (next ∷ parts))
