-- Why a call stops in the first bytes of WTF-8, if that does not depend on the bytes after them.
use Rattle.std.proofs.Common.{◌≡◌, ◌⊎◌, inl, inr, ℕ, ◌+◌, ◌<◌, ◌≤◌, Bool, true, List, [], ◌∷◌, ◌++◌, Option, None, Some, length, take, drop, refl, sym, ap, ◌∙◌, subst, ⊎_elim, arith, append_assoc, length-append, length-drop, take-append-drop, take_at, le-ltb, ne_eqb}
use Rattle.std.proofs.lemmas.Bool.{cases_lt}
use Rattle.std.proofs.lemmas.Bool.Decides.{nat_tests}
use Rattle.std.proofs.lemmas.List.{drop-append-le, take-append-le}
use Rattle.std.specs.Prelude.{◌==◌, ◌&&◌, if◌then◌else◌, slice_index}
use Rattle.std.specs.Int.{is_in_range}
use Rattle.std.specs.Str.Lossy.{second_byte_max, second_byte_min, utf8_error_len}
use Rattle.utf16_units.specs.Unit.{IsTrailing}
use Rattle.utf16_transcode.specs.Transcoded.{Writes}
use Rattle.utf16_transcode.specs.declared.progress.Stop.{Stop}
use Rattle.utf16_transcode.specs.declared.progress.Stop.TheVariants.{Incomplete, Done, IllFormed, NoSpace}
use Rattle.utf16_wtf8.specs.FromWtf8.{IsIllFormedWtf8, IsWtf8ValidUpTo, NextPointDoesNotFit, NoPointContinues, StopsFromWtf8Partial, TranscodesFromWtf8, wtf8_error_len}
use Rattle.utf16_wtf8.specs.Laws.{IsTruncated, StartsWithNoPoint}
use Rattle.utf16_wtf8.specs.Wtf8.{IsCodePoint, IsWtf8, SpellsWtf8, ends_leading, generalized_utf8}
use Rattle.utf16_wtf8.proofs.CodeLemmas.{point-unique, some_bytes}
use Rattle.utf16_wtf8.proofs.ContinuedLemmas.{SpellsWtf8-next, valid_to}
use Rattle.utf16_wtf8.proofs.MaximalLemmas.{none_if_truncated}

-- after the longest prefix, no code point continues it
module _ (bytes : List ℕ) (read : ℕ) (valid : IsWtf8ValidUpTo bytes read) where
  abbrev points : List ℕ
  points = valid.front.points

  module _ (point : ℕ) (more : List ℕ) (below : IsCodePoint point) (e : drop read bytes ≡ generalized_utf8 point ++ more) where
    not_longer : ¬ (ends_leading points ≡ true → ¬ (IsTrailing point))
    not_longer apart =
        valid.longest (read + length (generalized_utf8 point)) (omega (arith, some_bytes point))
        (record { points = points ++ point ∷ []; spells = SpellsWtf8-next bytes points read point more valid.front.spells below e apart })

    is_pair : (ends_leading points ≡ true) × IsTrailing point
    is_pair = grind (arith, not_longer)

  pub none_continues : NoPointContinues (ends_leading points) (drop read bytes)
  none_continues point more below e = is_pair point more below e

-- the length by the tests of three bytes: they begin a surrogate, the first byte begins a character,
-- the second may follow it, the third continues it. `end` is what all that gives
abbrev by_tests : Bool → Bool → Bool → Bool → Option ℕ → Option ℕ
by_tests surrogate first second third end =
    if surrogate then (if third then Some 3 else Some 2) else (if first then (if second then (if third then end else Some 2) else Some 1) else Some 1)

abbrev len_of_three : ℕ → ℕ → ℕ → Option ℕ → Option ℕ
len_of_three x y z end =
    by_tests ((x == 0xED) && is_in_range 0xA0 0xBF y) (is_in_range 0xC2 0xF4 x) (is_in_range (second_byte_min x) (second_byte_max x) y) (is_in_range 0x80 0xBF z) end

-- the first three of four bytes and more decide the length of an ill-formed sequence
abbrev len_of_four : ℕ → ℕ → ℕ → Option ℕ
len_of_four x y z = len_of_three x y z (Some 3)

error_len_of_four : (bytes : List ℕ) → 4 ≤ length bytes → wtf8_error_len bytes ≡ len_of_four (slice_index bytes 0) (slice_index bytes 1) (slice_index bytes 2)
unfolding utf8_error_len
error_len_of_four bytes long = grind (arith, ne_eqb, le-ltb)

-- so four bytes decide a code point
pub truncated_few : (rest : List ℕ) → wtf8_error_len rest ≡ None → length rest ≤ 3
truncated_few rest none = ⊎_elim
    (λ (few : length rest < 4). omega arith)
    (λ (long : 4 ≤ length rest). absurd (decided (slice_index rest 0) (slice_index rest 1) (slice_index rest 2) (sym (error_len_of_four rest long) ∙ none)))
    (cases_lt (length rest) 4)
  where
    decided : (x y z : ℕ) → len_of_four x y z ≡ None → ⊥
    decided x y z is = grind arith

-- an ill-formed sequence stays one, and has the same length
error_stays : (rest back : List ℕ) (len : ℕ) → wtf8_error_len rest ≡ Some len → wtf8_error_len (rest ++ back) ≡ Some len
unfolding utf8_error_len
error_stays [] back len is =
    absurd (cc)
error_stays (x ∷ []) back len is = grind (arith, nat_tests)
error_stays (x ∷ y ∷ []) back len is = grind (arith, nat_tests)
error_stays (x ∷ y ∷ z ∷ []) back len is = grind (arith, nat_tests)
error_stays (x ∷ y ∷ z ∷ w ∷ rest) back len is =
    error_len_of_four (x ∷ y ∷ z ∷ w ∷ (rest ++ back)) (omega arith) ∙ sym (error_len_of_four (x ∷ y ∷ z ∷ w ∷ rest) (omega arith)) ∙ is

few_of_three : (x y z : ℕ) (end : Option ℕ) (len : ℕ) → (end ≡ None) ⊎ (end ≡ Some 3) → len_of_three x y z end ≡ Some len → (1 ≤ len) × (len ≤ 3)
few_of_three x y z end len either is = by_test ((x == 0xED) && is_in_range 0xA0 0xBF y) (is_in_range 0xC2 0xF4 x) (is_in_range (second_byte_min x) (second_byte_max x) y) (is_in_range 0x80 0xBF z) is where
  by_test : (surrogate first second third : Bool) → by_tests surrogate first second third end ≡ Some len → (1 ≤ len) × (len ≤ 3)
  by_test surrogate first second third is = grind arith

longer_than_three : (x y z len : ℕ) → len_of_three x y z None ≡ None → len_of_three x y z (Some 3) ≡ Some len → 3 ≤ len
longer_than_three x y z len none is = by_test ((x == 0xED) && is_in_range 0xA0 0xBF y) (is_in_range 0xC2 0xF4 x) (is_in_range (second_byte_min x) (second_byte_max x) y) (is_in_range 0x80 0xBF z) none is where
  by_test : (surrogate first second third : Bool) → by_tests surrogate first second third None ≡ None → by_tests surrogate first second third (Some 3) ≡ Some len → 3 ≤ len
  by_test surrogate first second third none is = grind arith

-- the same of two bytes
abbrev of_two : Bool → Bool → Bool → Option ℕ
of_two surrogate first second = if surrogate then None else (if first then (if second then None else Some 1) else Some 1)

longer_than_two : (x y z : ℕ) (end : Option ℕ) (len : ℕ) → (end ≡ None) ⊎ (end ≡ Some 3) → wtf8_error_len (x ∷ y ∷ []) ≡ None → len_of_three x y z end ≡ Some len → 2 ≤ len
unfolding utf8_error_len
longer_than_two x y z end len either none is = by_test ((x == 0xED) && is_in_range 0xA0 0xBF y) (is_in_range 0xC2 0xF4 x) (is_in_range (second_byte_min x) (second_byte_max x) y) none (is_in_range 0x80 0xBF z) is where
  by_test : (surrogate first second : Bool) → of_two surrogate first second ≡ None
      → (third : Bool) → by_tests surrogate first second third end ≡ Some len → 2 ≤ len
  by_test surrogate first second none third is = grind arith

-- it has one to three bytes
pub len_is_few : (bytes : List ℕ) (len : ℕ) → wtf8_error_len bytes ≡ Some len → (1 ≤ len) × (len ≤ 3) × (len ≤ length bytes)
unfolding utf8_error_len
len_is_few [] len is = absurd (cc)
len_is_few (x ∷ []) len is = grind (arith, nat_tests)
len_is_few (x ∷ y ∷ []) len is = grind (arith, nat_tests)
len_is_few (x ∷ y ∷ z ∷ []) len is = let few = few_of_three x y z None len (inl refl) is in (few.0, few.1, omega (arith, few.1))
len_is_few (x ∷ y ∷ z ∷ w ∷ bytes) len is =
    let few = few_of_three x y z (Some 3) len (inr refl) (sym (error_len_of_four (x ∷ y ∷ z ∷ w ∷ bytes) (omega arith)) ∙ is) in (few.0, few.1, omega (arith, few.1))

-- and at least those that are the beginning of a code point
pub error_longer : (part back : List ℕ) (len : ℕ) → wtf8_error_len part ≡ None → wtf8_error_len (part ++ back) ≡ Some len → length part ≤ len
unfolding utf8_error_len
error_longer [] back len none is = omega arith
error_longer (x ∷ []) back len none is = let few = len_is_few (x ∷ back) len is in omega (arith, few.0)
error_longer (x ∷ y ∷ []) [] len none is = let bad : None ≡ Some len = sym none ∙ is in absurd (cc)
error_longer (x ∷ y ∷ []) (z ∷ []) len none is = longer_than_two x y z None len (inl refl) none is
error_longer (x ∷ y ∷ []) (z ∷ w ∷ back) len none is =
    longer_than_two x y z (Some 3) len (inr refl) none (sym (error_len_of_four (x ∷ y ∷ z ∷ w ∷ back) (omega arith)) ∙ is)
error_longer (x ∷ y ∷ z ∷ []) [] len none is = let bad : None ≡ Some len = sym none ∙ is in absurd (cc)
error_longer (x ∷ y ∷ z ∷ []) (w ∷ back) len none is = longer_than_three x y z len none (sym (error_len_of_four (x ∷ y ∷ z ∷ w ∷ back) (omega arith)) ∙ is)
error_longer (x ∷ y ∷ z ∷ w ∷ part) back len none is = absurd (omega (arith, truncated_few (x ∷ y ∷ z ∷ w ∷ part) none))

module _ (front back : List ℕ) (read len : ℕ) (fault : IsIllFormedWtf8 front read (Some len)) where
  abbrev rest : List ℕ
  rest = drop read front

  within : read ≤ length front
  within = let short = fault.0.short in omega arith

  longer : drop read (front ++ back) ≡ rest ++ back
  longer = drop-append-le read front back within

  -- a code point that more bytes complete would have no length
  module _ (point : ℕ) (more : List ℕ) (below : IsCodePoint point) (e : rest ++ back ≡ generalized_utf8 point ++ more) (cut : length rest < length (generalized_utf8 point)) where
    begins : rest ≡ take (length rest) (generalized_utf8 point)
    begins = sym (take_at rest back (length rest) refl) ∙ ap (take (length rest)) e ∙ take-append-le (length rest) (generalized_utf8 point) more (omega (arith, cut))

    truncated : IsTruncated rest
    truncated = record {
      point = point;
      more = drop (length rest) (generalized_utf8 point);
      code_point = below;
      some = λ none. omega (arith, ap length none, length-drop (length rest) (generalized_utf8 point), cut);
      spelled = ap (λ b. b ++ drop (length rest) (generalized_utf8 point)) begins ∙ take-append-drop (length rest) (generalized_utf8 point);
    }

    starts_with_none : StartsWithNoPoint rest
    starts_with_none other others is e2 = grind (arith, point-unique, append_assoc, length-append)

    not_truncated : ⊥
    not_truncated =
        let none = (none_if_truncated rest starts_with_none).1 truncated in
        absurd (cc)

  none_here : NoPointContinues (ends_leading fault.0.front.points) (drop read (front ++ back))
  none_here point more below e =
      let k = length (generalized_utf8 point) in
      let both : rest ++ back ≡ generalized_utf8 point ++ more = sym longer ∙ e in
      ⊎_elim
      (λ (cut : length rest < k). absurd (not_truncated point more below both cut))
      (λ (whole : k ≤ length rest).
      none_continues front read fault.0 point (drop k rest) below
      (sym (take-append-drop k rest) ∙ ap (λ b. b ++ drop k rest) (sym (take-append-le k rest back whole) ∙ ap (take k) both ∙ take_at (generalized_utf8 point) more k refl)))
      (cases_lt (length rest) k)

  pub ill_formed_longer : IsIllFormedWtf8 (front ++ back) read (Some len)
  ill_formed_longer =
      let all = length-append front back in (
        valid_to (front ++ back) fault.0.front.points read (omega arith) (subst (SpellsWtf8 fault.0.front.points) (sym (take-append-le read front back within)) fault.0.front.spells) (omega arith) none_here,
        sym (ap wtf8_error_len longer ∙ error_stays rest back len (sym fault.1)),
      )

-- a code point that does not fit
pub does_not_fit_longer : (big : Bool) (front back : List ℕ) (read left : ℕ) → NextPointDoesNotFit big front read left → NextPointDoesNotFit big (front ++ back) read left
does_not_fit_longer big front back read left here =
    let k = length (generalized_utf8 here.point) in
    let some = some_bytes here.point in
    let size = ap length here.begins ∙ length-append (generalized_utf8 here.point) here.more in
    let all = length-drop read front in
    record {
      point = here.point;
      more = here.more ++ back;
      code_point = here.code_point;
      begins = drop-append-le read front back (omega arith) ∙ ap (λ b. b ++ back) here.begins ∙ append_assoc (generalized_utf8 here.point) here.more back;
      continues = subst IsWtf8 (sym (take-append-le (read + k) front back (omega arith))) here.continues;
      too_long = here.too_long;
    }

abbrev pub Writes-longer : (big : Bool) (front back to : List ℕ) (read written : ℕ) → Writes (TranscodesFromWtf8 big) front to read written → Writes (TranscodesFromWtf8 big) (front ++ back) to read written
Writes-longer big front back to read written wrote = record {
  within = omega (arith, wrote.within, length-append front back);
  fits = wrote.fits;
  gives = record {
    points = wrote.gives.points;
    spells = subst (SpellsWtf8 wrote.gives.points) (sym (take-append-le read front back wrote.within)) wrote.gives.spells;
    units = wrote.gives.units;
  };
}

-- a call stops before an ill-formed sequence, or for lack of space
abbrev pub IsDecided : Stop → Type 0
IsDecided stop = ((len : ℕ) × (stop ≡ IllFormed len)) ⊎ (stop ≡ NoSpace)

pub not_done : (stop : Stop) → IsDecided stop → ¬ (stop ≡ Done)
not_done stop decided done = grind arith

pub not_cut : (stop : Stop) → IsDecided stop → ¬ (stop ≡ Incomplete)
not_cut stop decided cut = grind arith

-- more bytes do not change that
pub stops_longer : (big : Bool) (front back : List ℕ) (read left : ℕ) (stop : Stop) → IsDecided stop
    → StopsFromWtf8Partial big front read left stop → StopsFromWtf8Partial big (front ++ back) read left stop
stops_longer big front back read left Done decided here = absurd (not_done Done decided refl)
stops_longer big front back read left (IllFormed len) decided here = ill_formed_longer front back read len here
stops_longer big front back read left Incomplete decided here = absurd (not_cut Incomplete decided refl)
stops_longer big front back read left NoSpace decided here = does_not_fit_longer big front back read left here
