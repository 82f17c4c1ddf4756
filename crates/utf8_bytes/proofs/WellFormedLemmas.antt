-- The boundaries of well-formed UTF-8.
use Rattle.std.proofs.Common.{◌≡◌, ⊎_elim, ℕ, ◌+◌, ◌-◌, ◌<◌, ◌≤◌, true, List, [], ◌∷◌, ◌++◌, length, slice_index, encode_utf8_all, inl, inr, refl, sym, subst, arith, length-append}
use Rattle.std.proofs.lemmas.Bool.{cases_lt}
use Rattle.std.proofs.lemmas.List.{get_or-append_right}
use Rattle.std.proofs.lemmas.Str.{IsCharBoundary-at_seam, IsCharBoundary-start, len_utf8_bounds, length-encode}
use Rattle.std.proofs.str.Laws.{Follows, both}
use Rattle.std.specs.Char.{IsScalar, encode_utf8}
use Rattle.std.specs.Str.{IsCharBoundary, IsUtf8, all_scalars}
use Rattle.utf8_bytes.specs.Boundary.{FollowsThree, IsCut}
use Rattle.utf8_bytes.proofs.CharLemmas.{begins}

-- a character, and then a text
module _ (c : ℕ) (scalar : IsScalar c) (rest : List ℕ) (text : IsUtf8 rest) (at : ℕ) where
  abbrev whole : List ℕ
  whole = encode_utf8 c ++ rest

  abbrev len : ℕ
  len = length (encode_utf8 c)

  all : length whole ≡ len + length rest
  all = length-append (encode_utf8 c) rest

  few : (1 ≤ len) × (len ≤ 4)
  few = let size = length-encode c in let bounds = len_utf8_bounds c in (omega (arith, size, bounds.0), omega (arith, size, bounds.1))

  after : (i : ℕ) → len ≤ i → slice_index whole i ≡ slice_index rest (i - len)
  after i past = get_or-append_right (encode_utf8 c) rest len i 0 refl past

  -- a boundary of the text is one of the whole
  shifted : len ≤ at → IsCharBoundary rest (at - len) → IsCharBoundary whole at
  shifted past is = (
    (let within = is.0 in omega (arith, all, within, past)),
    (λ below. subst (λ b. 128 ≤ b → 192 ≤ b) (sym (after at past)) (is.1 (omega (arith, all, below, past)))),
  )

  -- the byte after the character is not a continuation byte
  no_follow : len < at → at ≤ length whole → ¬ (Follows (slice_index whole len))
  no_follow past within f = let above = f.0 in let below = f.1 in
      let high = (IsCharBoundary-at_seam whole (encode_utf8 c) rest refl text).1 (omega (arith, past, within)) above in omega arith

  step : FollowsThree whole at → (FollowsThree rest (at - len) → IsCharBoundary rest (at - len)) → IsCharBoundary whole at
  step three next =
      let some = three.0 in
      let within = three.1 in
      ⊎_elim
      (λ (inside : at < len).
      let first : at - 3 ≡ 0 = omega (arith, inside, some, few.1) in
      absurd (begins c rest whole scalar refl few.0 (subst (λ i. Follows (slice_index whole i)) first three.2)))
      (λ (past : len ≤ at). ⊎_elim
      (λ (near : at < len + 3). ⊎_elim
      (λ (there : at < len + 1). let same : len ≡ at = omega (arith, there, past) in subst (IsCharBoundary whole) same (IsCharBoundary-at_seam whole (encode_utf8 c) rest refl text))
      (λ (after : len + 1 ≤ at). absurd (⊎_elim
      (λ (one : at < len + 2). let same : at - 1 ≡ len = omega (arith, one, after) in
      no_follow (omega (arith, after)) within (subst (λ i. Follows (slice_index whole i)) same three.4))
      (λ (two : len + 2 ≤ at). let same : at - 2 ≡ len = omega (arith, two, near) in
      no_follow (omega (arith, after)) within (subst (λ i. Follows (slice_index whole i)) same three.3))
      (cases_lt at (len + 2))))
      (cases_lt at (len + 1)))
      (λ (far : len + 3 ≤ at).
      let there : (k : ℕ) → k ≤ 3 → Follows (slice_index whole (at - k)) → Follows (slice_index rest ((at - len) - k)) =
      λ k least f. let same : at - k - len ≡ (at - len) - k = omega (arith, far, least) in
      subst (λ i. Follows (slice_index rest i)) same (subst Follows (after (at - k) (omega (arith, far, least))) f) in
      shifted past (next (
        omega (arith, far),
        omega (arith, all, within),
        there 3 (omega arith) three.2,
        there 2 (omega arith) three.3,
        there 1 (omega arith) three.4,
      )))
      (cases_lt at (len + 3)))
      (cases_lt at len)

in_text : (text : List ℕ) → all_scalars text ≡ true → (at : ℕ) → FollowsThree (encode_utf8_all text) at → IsCharBoundary (encode_utf8_all text) at
in_text [] scalars at three = absurd (omega (arith, three.0, three.1))
in_text (c ∷ text) scalars at three =
    let each = both _ _ scalars in
    step c each.0 (encode_utf8_all text) (text, (each.1, refl)) at three (in_text text each.1 (at - length (encode_utf8 c)))

pub boundary_of_cut : (bytes : List ℕ) (at : ℕ) → IsUtf8 bytes → IsCut bytes at → IsCharBoundary bytes at
boundary_of_cut bytes at text (inl start) = subst (IsCharBoundary bytes) (sym start) (IsCharBoundary-start bytes text)
boundary_of_cut bytes at text (inr (inl boundary)) = boundary
boundary_of_cut bytes at text (inr (inr three)) =
    subst (λ b. IsCharBoundary b at) text.1.1 (in_text text.0 text.1.0 at (subst (λ b. FollowsThree b at) (sym text.1.1) three))
