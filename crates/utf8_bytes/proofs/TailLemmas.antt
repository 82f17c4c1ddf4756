-- How a truncated character is split before a byte that does not continue it, and how three
-- continuation bytes are.
use Rattle.std.proofs.Common.{◌≡◌, ⊎_elim, ℕ, ◌+◌, ◌-◌, ◌<◌, ◌≤◌, Some, List, [], ◌∷◌, ◌++◌, length, take, drop, slice_index, inl, refl, sym, ap, ap₂, ◌∙◌, subst, arith, append-nil, length-append, length-take-le, take_all, take_at, drop_at, take-append-drop}
use Rattle.std.proofs.lemmas.Bool.{cases_lt}
use Rattle.std.proofs.lemmas.List.{get_or-append-add, get_or-take, get_or_append_left, take-append-le}
use Rattle.std.proofs.str.Laws.{Follows}
use Rattle.std.specs.Char.{encode_utf8}
use Rattle.std.specs.Str.{StartsWithNoChar}
use Rattle.std.specs.Str.Lossy.{utf8_error_len}
use Rattle.utf8_bytes.specs.Laws.{IsMaximal}
use Rattle.utf8_bytes.specs.Split.{IsTail, Item, ill, items_bytes, lossy_text, split_items, split_tail, whole_lossy_chars}
use Rattle.utf8_bytes.proofs.BeginsLemmas.{some_bytes}
use Rattle.utf8_bytes.proofs.LawProofs.{split_exists, subpart_is_maximal, tail_is_undecided}
use Rattle.utf8_bytes.proofs.ShownLemmas.{length-IsTail}
use Rattle.utf8_bytes.proofs.SplitIllFormed.{split_items-subpart, split_tail-subpart}
use Rattle.utf8_bytes.specs.Boundary.{FollowsThree}
use Rattle.utf8_bytes.proofs.CharLemmas.{begins, continues}

-- a tail and more bytes are a character
whole_char : (tail : List ℕ) (ends : IsTail tail) → tail ++ ends.more ≡ encode_utf8 ends.char ++ []
whole_char tail ends = ends.spelled ∙ sym (append-nil (encode_utf8 ends.char))

-- a tail does not begin with a continuation byte, and its others are continuation bytes
tail_begins : (tail : List ℕ) → IsTail tail → 0 < length tail → ¬ (Follows (slice_index tail 0))
tail_begins tail ends some f =
    begins ends.char [] (tail ++ ends.more) ends.scalar (whole_char tail ends) (some_bytes ends.char)
    (subst Follows (sym (get_or_append_left tail ends.more 0 0 some)) f)

tail_continues : (tail : List ℕ) → IsTail tail → (i : ℕ) → 0 < i → i < length tail → Follows (slice_index tail i)
tail_continues tail ends i some within =
    let long = sym (length-append tail ends.more) ∙ ap length ends.spelled in
    subst Follows (get_or_append_left tail ends.more 0 i within)
    (continues ends.char [] (tail ++ ends.more) ends.scalar (whole_char tail ends) i some (omega (arith, long)))

-- ---- a tail before a byte that does not continue it

module _ (tail back : List ℕ) (ends : IsTail tail) (some : 0 < length tail) (more : 0 < length back) (other : ¬ (Follows (slice_index back 0))) where
  abbrev whole : List ℕ
  whole = tail ++ back

  long : length whole ≡ length tail + length back
  long = length-append tail back

  front : take (length tail) whole ≡ tail
  front = take_at tail back (length tail) refl

  -- the byte after the tail
  next : slice_index whole (length tail) ≡ slice_index back 0
  next = let here : length tail + 0 ≡ length tail = omega arith in ap (slice_index whole) (sym here) ∙ get_or-append-add tail back 0 0

  no_longer : (n : ℕ) → length tail < n → n ≤ length whole → ¬ (IsTail (take n whole))
  no_longer n past within is =
      let size = length-take-le n whole within in
      other (subst Follows (get_or-take n whole (length tail) 0 past ∙ next) (tail_continues (take n whole) is (length tail) some (omega (arith, size))))

  no_char : StartsWithNoChar whole
  no_char c rest scalar e = ⊎_elim
      (λ (longer : length tail < length (encode_utf8 c)). other (subst Follows next (continues c rest whole scalar e (length tail) some longer)))
      (λ (short : length (encode_utf8 c) ≤ length tail).
      let n = length (encode_utf8 c) in
      let spelled : encode_utf8 c ≡ take n tail = sym (take_at (encode_utf8 c) rest n refl) ∙ ap (take n) (sym e) ∙ take-append-le n tail back short in
      ((tail_is_undecided tail).1 ends).0 c (drop n tail) scalar (sym (ap (λ b. b ++ drop n tail) spelled ∙ take-append-drop n tail)))
      (cases_lt (length tail) (length (encode_utf8 c)))

  maximal : IsMaximal whole (length tail)
  maximal = record {
    some = some;
    within = omega (arith, long);
    begins = inl (subst IsTail (sym front) ends);
    longest = no_longer;
  }

  -- it is an ill-formed subpart
  error : utf8_error_len whole ≡ Some (length tail)
  error = (subpart_is_maximal whole (length tail) no_char).1 (
    maximal,
    (λ is. no_longer (length whole) (omega (arith, long)) (omega arith) (subst IsTail (sym (take_all (length whole) whole (omega arith))) is)),
  )

  replaced : (part : List ℕ) (items : List Item) (last : List ℕ) → whole_lossy_chars (ill part ∷ items) last ≡ 0xFFFD ∷ whole_lossy_chars items last
  replaced part items [] = refl
  replaced part items (b ∷ last) = refl

  pub tail_text-then : lossy_text whole ≡ 0xFFFD ∷ lossy_text back
  tail_text-then =
      ap₂ whole_lossy_chars (split_items-subpart whole (length tail) no_char error) (split_tail-subpart whole (length tail) no_char error)
      ∙ replaced (take (length tail) whole) (split_items (drop (length tail) whole)) (split_tail (drop (length tail) whole))
      ∙ ap (λ b. 0xFFFD ∷ lossy_text b) (drop_at tail back (length tail) refl)

-- ---- three continuation bytes

module _ (bytes : List ℕ) (at : ℕ) (three : FollowsThree bytes at) where
  abbrev before : List ℕ
  before = take at bytes

  abbrev items : List ℕ
  items = items_bytes (split_items before)

  within_three : (i : ℕ) → i < at → at ≤ i + 3 → Follows (slice_index before i)
  within_three i below near = subst Follows (sym (get_or-take at bytes i 0 below)) (⊎_elim
      (λ (third : i < at - 2). let same : at - 3 ≡ i = omega arith in subst (λ k. Follows (slice_index bytes k)) same three.2)
      (λ (after : at - 2 ≤ i). ⊎_elim
      (λ (second : i < at - 1). let same : at - 2 ≡ i = omega arith in subst (λ k. Follows (slice_index bytes k)) same three.3)
      (λ (last : at - 1 ≤ i). let same : at - 1 ≡ i = omega arith in subst (λ k. Follows (slice_index bytes k)) same three.4)
      (cases_lt i (at - 1)))
      (cases_lt i (at - 2)))

  -- they end no truncated character
  no_tail : (tail : List ℕ) → IsTail tail → items ++ tail ≡ before → tail ≡ []
  no_tail [] ends e = refl
  no_tail (x ∷ tail) ends e =
      let all = x ∷ tail in
      let few = length-IsTail all ends in
      let size = sym (length-append items all) ∙ ap length e ∙ length-take-le at bytes three.1 in
      let start : length items + 0 ≡ length items = omega arith in
      let first : slice_index before (length items) ≡ slice_index all 0 =
      ap (λ b. slice_index b (length items)) (sym e) ∙ ap (slice_index (items ++ all)) (sym start) ∙ get_or-append-add items all 0 0 in
      absurd (tail_begins all ends (omega arith) (subst Follows first (within_three (length items) (omega (arith, size)) (omega (arith, size, few)))))

  pub three_decide : split_tail before ≡ []
  three_decide = let s = split_exists before in no_tail (split_tail before) s.ends s.spelled
