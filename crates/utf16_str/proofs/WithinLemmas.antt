-- The substrings of a text that its iterators give are in the text, each at its offset.
use Rattle.std.proofs.Common.{◌≡◌, ℕ, zero, suc, ◌+◌, ◌-◌, Bool, arith, true, false, cond, eqb, All, List, [], ◌∷◌, ◌++◌, length, drop, map, reverse, take, refl, sym, ap, ◌∙◌, append_assoc, append-nil, subst}
use Rattle.std.proofs.lemmas.List.{reverse-append, take-append-drop}
use Rattle.std.proofs.lemmas.List.Elements.{All-cons, All-head, All-nil, All-tail}
use Rattle.std.specs.List.{filter, onto_first, slice_split}
use Rattle.std.specs.Prelude.{slice_index}
use Rattle.std.specs.Str.Lines.{lines_of_parts}
use Rattle.utf16_units.specs.Encoding.{char_size, size}
use Rattle.utf16_units.proofs.EncodingLemmas.{size-append, size-cons, size-nil}
use Rattle.utf16_str.specs.Matches.{limited, match_offsets, rmatch_offsets, with_terminators, without_empty_last}
use Rattle.utf16_str.specs.Substrings.{in_order, joined_toward, joined_with, offsets_from, rjoined_with, roffsets_from, word_offsets, words_at, words_by}
use Rattle.utf16_str.proofs.JoinLemmas.{Joins, joins-toward}
use Rattle.utf16_str.proofs.WordLemmas.{kept, not_empty}

-- the part is in the text
abbrev pub Within : List ℕ → List ℕ → Type 0
Within text part = (front : List ℕ) × (back : List ℕ) × (text ≡ front ++ (part ++ back))

-- the part is in the text at an offset
abbrev pub WithinAt : List ℕ → ℕ → List ℕ → Type 0
WithinAt text at part = (w : Within text part) × (at ≡ size w.0)

-- the parts are in the text, each at its offset
abbrev pub Placed : List ℕ → List ℕ → List (List ℕ) → Type 0
Placed text [] [] = Unit {0}
Placed text (at ∷ offsets) (part ∷ parts) = WithinAt text at part × Placed text offsets parts
Placed text [] (part ∷ parts) = ⊥
Placed text (at ∷ offsets) [] = ⊥

pub placed-pairs : (text : List ℕ) (found : List (ℕ × List ℕ)) → All (λ at. WithinAt text at.0 at.1) found
    → Placed text (map (λ at. at.0) found) (map (λ at. at.1) found)
placed-pairs text [] all = tt
placed-pairs text (at ∷ found) all =
    (All-head (λ at. WithinAt text at.0 at.1) at found all, placed-pairs text found (All-tail (λ at. WithinAt text at.0 at.1) at found all))

-- ---- in reverse
placed-append : (text front back : List ℕ) (parts others : List (List ℕ)) → Placed text front parts → Placed text back others → Placed text (front ++ back) (parts ++ others)
placed-append text [] back [] others p q = q
placed-append text [] back (part ∷ parts) others p q = absurd p
placed-append text (at ∷ front) back [] others p q = absurd p
placed-append text (at ∷ front) back (part ∷ parts) others p q = (p.0, placed-append text front back parts others p.1 q)

pub placed-reverse : (text offsets : List ℕ) (parts : List (List ℕ)) → Placed text offsets parts → Placed text (reverse offsets) (reverse parts)
placed-reverse text [] [] p = tt
placed-reverse text [] (part ∷ parts) p = absurd p
placed-reverse text (at ∷ offsets) [] p = absurd p
placed-reverse text (at ∷ offsets) (part ∷ parts) p =
    subst (λ o. Placed text o (reverse (part ∷ parts))) (sym (reverse-append (at ∷ []) offsets))
    (subst (Placed text (reverse offsets ++ at ∷ [])) (sym (reverse-append (part ∷ []) parts))
    (placed-append text (reverse offsets) (at ∷ []) (reverse parts) (part ∷ []) (placed-reverse text offsets parts p.1) (p.0, tt)))

-- ---- lists without the last item, if that is empty
module _ (text : List ℕ) (gap : ℕ) where
  unless_empty : (none : Bool) (at : ℕ) (last : List ℕ) → WithinAt text at last → Placed text (offsets_from gap at (cond none [] (last ∷ []))) (cond none [] (last ∷ []))
  unless_empty true at last is = tt
  unless_empty false at last is = (is, tt)

  pub placed-without : (at : ℕ) (parts : List (List ℕ)) → Placed text (offsets_from gap at parts) parts
      → Placed text (offsets_from gap at (without_empty_last parts)) (without_empty_last parts)
  placed-without at [] p = tt
  placed-without at (last ∷ []) p = unless_empty (eqb (length last) 0) at last p.0
  placed-without at (part ∷ next ∷ parts) p = (p.0, placed-without (at + size part + gap) (next ∷ parts) p.1)

  -- a line is at the offset of the part that it is made of
  strip-within : (at : ℕ) (part : List ℕ) (ended : Bool) → WithinAt text at part → WithinAt text at (cond ended (take (length part - 1) part) part)
  strip-within at part true w =
      let n = length part - 1 in (
        (
          w.0.0,
          drop n part ++ w.0.1,
          w.0.2 ∙ ap (λ t. w.0.0 ++ (t ++ w.0.1)) (sym (take-append-drop n part)) ∙ ap (λ t. w.0.0 ++ t) (append_assoc (take n part) (drop n part) w.0.1),
        ),
        w.1,
      )
  strip-within at part false w = w

  pub placed-lines : (at : ℕ) (parts : List (List ℕ)) → Placed text (offsets_from gap at parts) parts
      → Placed text (offsets_from gap at (without_empty_last parts)) (lines_of_parts parts)
  placed-lines at [] p = tt
  placed-lines at (last ∷ []) p = unless_empty (eqb (length last) 0) at last p.0
  placed-lines at (part ∷ next ∷ parts) p =
      (strip-within at part (eqb (slice_index part (length part - 1)) 13) p.0, placed-lines (at + size part + gap) (next ∷ parts) p.1)

-- ---- the words of a text
-- the first substring of a text that is split by a test, and the others; where the words are among
-- the others, and among all
record Words (whole text inside between : List ℕ) (parts : List (List ℕ)) : Type 0 where
  first : List ℕ
  rest : List (List ℕ)
  back : List ℕ
  is : parts ≡ first ∷ rest
  begins : text ≡ first ++ back
  later : Placed whole inside (filter not_empty rest)
  all : Placed whole between (filter not_empty (first ∷ rest))

words-step : (whole done : List ℕ) (c : ℕ) (text inside between : List ℕ) (parts : List (List ℕ)) (at : ℕ) (cut : Bool) → whole ≡ done ++ c ∷ text → at ≡ size done
    → Words whole text inside between parts
    → Words whole (c ∷ text) (cond cut between inside) (cond cut between (at ∷ inside)) (cond cut ([] ∷ parts) (onto_first c parts))
words-step whole done c text inside between parts at true is here w =
    let all = subst (λ ps. Placed whole between (filter not_empty ps)) (sym w.is) w.all in
    record { first = []; rest = parts; back = c ∷ text; is = refl; begins = refl; later = all; all = all }
words-step whole done c text inside between parts at false is here w =
    let word = c ∷ w.first in
    record {
      first = word;
      rest = w.rest;
      back = w.back;
      is = ap (onto_first c) w.is;
      begins = ap (λ t. c ∷ t) w.begins;
      later = w.later;
      all = subst (Placed whole (at ∷ inside)) (sym (kept word w.rest (λ none. absurd cc))) (((done, w.back, is ∙ ap (λ t. done ++ c ∷ t) w.begins), here), w.later);
    }

words-in : (p : ℕ → Bool) (whole done text : List ℕ) (at : ℕ) → whole ≡ done ++ text → at ≡ size done
    → Words whole text (words_at p false at text) (words_at p true at text) (slice_split p text)
words-in p whole done [] at is here = record { first = []; rest = []; back = []; is = refl; begins = refl; later = tt; all = tt }
words-in p whole done (c ∷ text) at is here =
    let next : at + char_size c ≡ size (done ++ c ∷ []) = omega (arith, here, size-append done (c ∷ []), size-cons c [], size-nil) in
    let rest = words-in p whole (done ++ c ∷ []) text (at + char_size c) (is ∙ sym (append_assoc done (c ∷ []) text)) next in
    words-step whole done c text (words_at p false (at + char_size c) text) (words_at p true (at + char_size c) text) (slice_split p text) at (p c) is here rest

pub placed-words : (p : ℕ → Bool) (text : List ℕ) → Placed text (word_offsets p text) (words_by p text)
placed-words p text =
    let w = words-in p text [] text 0 refl (sym size-nil) in
    subst (λ parts. Placed text (word_offsets p text) (filter not_empty parts)) (sym w.is) w.all

-- ---- substrings that are joined by a part. What was taken before them is `done`
regroup : (back : Bool) (done taken left : List ℕ) → in_order back done (in_order back taken left) ≡ in_order back (in_order back done taken) left
regroup false done taken left = sym (append_assoc done taken left)
regroup true done taken left = append_assoc left taken done

none-done : (back : Bool) (text : List ℕ) → text ≡ in_order back [] text
none-done false text = refl
none-done true text = sym (append-nil text)

module _ (back : Bool) (part text : List ℕ) where
  abbrev join : List (List ℕ) → List ℕ
  join = joined_toward back part

  before : (done p q : List ℕ) (parts : List (List ℕ)) → text ≡ in_order back done (join (p ∷ q ∷ parts)) → text ≡ in_order back done (in_order back p (in_order back part (join (q ∷ parts))))
  before done p q parts is = is ∙ ap (in_order back done) ((joins-toward back part).more p q parts)

  later : (done p q : List ℕ) (parts : List (List ℕ)) → text ≡ in_order back done (join (p ∷ q ∷ parts)) → text ≡ in_order back (in_order back (in_order back done p) part) (join (q ∷ parts))
  later done p q parts is =
      before done p q parts is ∙ regroup back done p (in_order back part (join (q ∷ parts))) ∙ regroup back (in_order back done p) part (join (q ∷ parts))

-- the first n substrings, joined, are the text too
module _ {back : Bool} {part : List ℕ} {join : List (List ℕ) → List ℕ} (j : Joins back part join) where
  pub join-limited : (n : ℕ) (parts : List (List ℕ)) → join (limited join (suc n) parts) ≡ join parts
  join-limited n [] = refl
  join-limited zero (p ∷ parts) = j.one (join (p ∷ parts))
  join-limited (suc n) (p ∷ []) = refl
  join-limited (suc zero) (p ∷ q ∷ parts) =
      j.more p (join (q ∷ parts)) [] ∙ ap (λ t. in_order back p (in_order back part t)) (j.one (join (q ∷ parts))) ∙ sym (j.more p q parts)
  join-limited (suc (suc n)) (p ∷ q ∷ parts) =
      j.more p q (limited join (suc n) parts) ∙ ap (λ t. in_order back p (in_order back part t)) (join-limited (suc n) (q ∷ parts)) ∙ sym (j.more p q parts)

-- ---- where they are, where those with the part are, and where the part is
module _ (part text : List ℕ) where
  past : (at : ℕ) (done p : List ℕ) → at ≡ size done → at + size p + size part ≡ size ((done ++ p) ++ part)
  past at done p here = omega (arith, here, size-append (done ++ p) part, size-append done p)

  last_one : (at : ℕ) (done p : List ℕ) → at ≡ size done → text ≡ done ++ joined_with part (p ∷ []) → WithinAt text at p
  last_one at done p here is = ((done, [], is ∙ ap (λ t. done ++ t) ((joins-toward false part).one p ∙ sym (append-nil p))), here)

  placed-joined : (at : ℕ) (done : List ℕ) (parts : List (List ℕ)) → at ≡ size done → text ≡ done ++ joined_with part parts
      → Placed text (offsets_from (size part) at parts) parts
  placed-joined at done [] here is = tt
  placed-joined at done (p ∷ []) here is = (last_one at done p here is, tt)
  placed-joined at done (p ∷ q ∷ parts) here is = (
    ((done, part ++ joined_with part (q ∷ parts), before false part text done p q parts is), here),
    placed-joined (at + size p + size part) ((done ++ p) ++ part) (q ∷ parts) (past at done p here) (later false part text done p q parts is),
  )

  placed-rjoined : (end : ℕ) (done : List ℕ) (parts : List (List ℕ)) → end ≡ size (rjoined_with part parts) → text ≡ rjoined_with part parts ++ done
      → Placed text (roffsets_from (size part) end parts) parts
  placed-rjoined end done [] here is = tt
  placed-rjoined end done (p ∷ []) here is =
      let one = (joins-toward true part).one p in
      let start : end - size p ≡ size [] = omega (arith, here, ap size one, size-nil) in
      ((([], done, is ∙ ap (λ t. t ++ done) one), start), tt)
  placed-rjoined end done (p ∷ q ∷ parts) here is =
      let rest = rjoined_with part (q ∷ parts) in
      let whole = ap size ((joins-toward true part).more p q parts) in
      let start : end - size p ≡ size (rest ++ part) = omega (arith, here, whole, size-append (rest ++ part) p) in
      let next : end - size p - size part ≡ size rest = omega (arith, start, size-append rest part) in (
        ((rest ++ part, done, before true part text done p q parts is ∙ append_assoc (rest ++ part) p done), start),
        placed-rjoined (end - size p - size part) (part ++ (p ++ done)) (q ∷ parts) next (later true part text done p q parts is),
      )

  placed-terminated : (at : ℕ) (done : List ℕ) (parts : List (List ℕ)) → at ≡ size done → text ≡ done ++ joined_with part parts
      → Placed text (offsets_from 0 at (with_terminators part parts)) (with_terminators part parts)
  placed-terminated at done [] here is = tt
  placed-terminated at done (p ∷ []) here is = unless_empty text 0 (eqb (length p) 0) at p (last_one at done p here is)
  placed-terminated at done (p ∷ q ∷ parts) here is =
      let rest = joined_with part (q ∷ parts) in
      let next : at + size (p ++ part) + 0 ≡ size ((done ++ p) ++ part) = omega (arith, size-append p part, past at done p here) in (
        ((done, rest, before false part text done p q parts is ∙ ap (λ t. done ++ t) (sym (append_assoc p part rest))), here),
        placed-terminated (at + size (p ++ part) + 0) ((done ++ p) ++ part) (q ∷ parts) next (later false part text done p q parts is),
      )

  within-matches : (offset : ℕ) (done : List ℕ) (parts : List (List ℕ)) → offset ≡ size done → text ≡ done ++ joined_with part parts
      → All (λ at. WithinAt text at.0 at.1) (match_offsets part offset parts)
  within-matches offset done [] here is = All-nil (λ at. WithinAt text at.0 at.1)
  within-matches offset done (p ∷ []) here is = All-nil (λ at. WithinAt text at.0 at.1)
  within-matches offset done (p ∷ q ∷ parts) here is =
      let rest = joined_with part (q ∷ parts) in
      All-cons (λ at. WithinAt text at.0 at.1) (offset + size p, part) (match_offsets part (offset + size p + size part) (q ∷ parts))
      ((done ++ p, rest, before false part text done p q parts is ∙ sym (append_assoc done p (part ++ rest))), omega (arith, here, size-append done p))
      (within-matches (offset + size p + size part) ((done ++ p) ++ part) (q ∷ parts) (past offset done p here) (later false part text done p q parts is))

  within-rmatches : (end : ℕ) (done : List ℕ) (parts : List (List ℕ)) → end ≡ size (rjoined_with part parts) → text ≡ rjoined_with part parts ++ done
      → All (λ at. WithinAt text at.0 at.1) (rmatch_offsets part end parts)
  within-rmatches end done [] here is = All-nil (λ at. WithinAt text at.0 at.1)
  within-rmatches end done (p ∷ []) here is = All-nil (λ at. WithinAt text at.0 at.1)
  within-rmatches end done (p ∷ q ∷ parts) here is =
      let rest = rjoined_with part (q ∷ parts) in
      let past : end - size p - size part ≡ size rest =
      omega (arith, here, ap size ((joins-toward true part).more p q parts), size-append (rest ++ part) p, size-append rest part) in
      let next = later true part text done p q parts is in
      All-cons (λ at. WithinAt text at.0 at.1) (end - size p - size part, part) (rmatch_offsets part (end - size p - size part) (q ∷ parts)) ((rest, p ++ done, next), past)
      (within-rmatches (end - size p - size part) (part ++ (p ++ done)) (q ∷ parts) past next)

  module _ (parts : List (List ℕ)) where
    pub placed-parts : text ≡ joined_with part parts → Placed text (offsets_from (size part) 0 parts) parts
    placed-parts is = placed-joined 0 [] parts (sym size-nil) is

    pub placed-rparts : text ≡ rjoined_with part parts → Placed text (roffsets_from (size part) (size text) parts) parts
    placed-rparts is = placed-rjoined (size text) [] parts (ap size is) (is ∙ none-done true (rjoined_with part parts))

    -- the first n
    pub placed-first : text ≡ joined_with part parts → (n : ℕ)
        → Placed text (offsets_from (size part) 0 (limited (joined_with part) n parts)) (limited (joined_with part) n parts)
    placed-first is zero = tt
    placed-first is (suc n) = placed-joined 0 [] (limited (joined_with part) (suc n) parts) (sym size-nil) (is ∙ sym (join-limited (joins-toward false part) n parts))

    pub placed-rfirst : text ≡ rjoined_with part parts → (n : ℕ)
        → Placed text (roffsets_from (size part) (size text) (limited (rjoined_with part) n parts)) (limited (rjoined_with part) n parts)
    placed-rfirst is zero = tt
    placed-rfirst is (suc n) =
        let joined = is ∙ sym (join-limited (joins-toward true part) n parts) in
        placed-rjoined (size text) [] (limited (rjoined_with part) (suc n) parts) (ap size joined) (joined ∙ none-done true (rjoined_with part (limited (rjoined_with part) (suc n) parts)))

    pub placed-ended : text ≡ joined_with part parts → Placed text (offsets_from 0 0 (with_terminators part parts)) (with_terminators part parts)
    placed-ended is = placed-terminated 0 [] parts (sym size-nil) is

    pub within-at : text ≡ joined_with part parts → All (λ at. WithinAt text at.0 at.1) (match_offsets part 0 parts)
    within-at is = within-matches 0 [] parts (sym size-nil) is

    pub within-rat : text ≡ rjoined_with part parts → All (λ at. WithinAt text at.0 at.1) (rmatch_offsets part (size text) parts)
    within-rat is = within-rmatches (size text) [] parts (ap size is) (is ∙ none-done true (rjoined_with part parts))
