-- The length of an ill-formed sequence of WTF-8 is the length of a maximal subpart in the words of
-- the Standard.
use Rattle.std.proofs.lemmas.Bool.Decides.{nat_tests}
use Rattle.std.proofs.Common.{◌≡◌, ◌↔◌, inl, inr, ℕ, ◌+◌, ◌-◌, ◌*◌, ◌/◌, ◌%◌, ◌<◌, ◌≤◌, true, false, List, [], ◌∷◌, ◌++◌, None, Some, length, slice_index, take, drop, refl, sym, ap, ap₂, ◌∙◌, subst, ⊎_elim, arith, length-append, length-take, length-take-le, take-append-drop, take_all, true≢false, le-leb}
use Rattle.std.proofs.lemmas.Bool.{cases_Bool, cases_lt, false_from_ne_true}
use Rattle.std.proofs.lemmas.List.{get_or-take, get_or_append_left, get_or_past}
use Rattle.std.specs.Int.{is_in_range}
use Rattle.std.specs.Char.{IsScalar}
use Rattle.utf16_units.proofs.Utf8Lemmas.{four_bytes, one_byte, three_bytes, two_bytes}
use Rattle.utf8_bytes.specs.Laws as utf8
use Rattle.utf8_bytes.specs.Split.{IsTail}
use Rattle.utf8_bytes.proofs.LawProofs.{tail_is_undecided}
use Rattle.utf8_bytes.proofs.MaximalLemmas.{error_len_is}
use Rattle.utf8_bytes.proofs.TableLemmas.{tail_nil, tail_three_one}
use Rattle.utf16_wtf8.specs.FromWtf8.{surrogate_begins, wtf8_error_len}
use Rattle.utf16_wtf8.specs.Laws.{IsMaximal, IsTruncated, StartsWithNoPoint}
use Rattle.utf16_wtf8.specs.Wtf8.{generalized_utf8}
use Rattle.utf16_wtf8.proofs.CodeLemmas.{by_size}
use Rattle.utf16_wtf8.proofs.ContinuedLemmas.{begins-from, begins-lead, begins-to, bytes_of_three, scalar_or_surrogate, surrogate-begins}
use Rattle.utf16_wtf8.proofs.FromWtf8Lemmas.{error_len-utf8}
use Rattle.utf16_wtf8.proofs.ScalarLemmas.{code_point-scalar}
use Rattle.utf16_wtf8.proofs.SurrogateLemmas.{cut_off_surrogate, len_of_three, no_third, surrogate_here, surrogate_of, surrogate_spelled}

-- ---- one length only is maximal

module _ (bytes : List ℕ) where
  not_shorter : (len other : ℕ) → IsMaximal bytes len → IsMaximal bytes other → ¬ (len < other)
  not_shorter len other m o less = grind arith

  one_maximal : (len other : ℕ) → IsMaximal bytes len → IsMaximal bytes other → len ≡ other
  one_maximal len other m o = grind (arith, not_shorter)

-- ---- where no surrogate begins, it is the length in UTF-8

truncated_tail : (part : List ℕ) → IsTail part → IsTruncated part
truncated_tail part is = record { point = is.char; more = is.more; code_point = code_point-scalar is.char is.scalar; some = is.some; spelled = is.spelled }

-- the beginning of a surrogate: nothing, its first byte, or its first two
begin_surrogate : (part more : List ℕ) (y z : ℕ) → part ++ more ≡ 0xED ∷ y ∷ z ∷ [] → ¬ (more ≡ []) → 0xA0 ≤ y → y ≤ 0xBF → surrogate_begins part ≡ false → IsTail part
begin_surrogate [] more y z e some from to isnt = tail_nil
begin_surrogate (a ∷ []) more y z e some from to isnt =
    let first : 0xED ≡ a = ap (λ b. slice_index b 0) (sym e) in
    subst (λ x. IsTail (x ∷ [])) first (tail_three_one 0xED (omega arith) (omega arith))
begin_surrogate (a ∷ b ∷ []) more y z e some from to isnt =
    let first = ap (λ b. slice_index b 0) e in
    let second = ap (λ b. slice_index b 1) e in
    absurd (true≢false (sym (ap₂ (λ x w. surrogate_begins (x ∷ w ∷ [])) first second ∙ tests) ∙ isnt)) where
      tests : surrogate_begins (0xED ∷ y ∷ []) ≡ true
      tests = rw (le-leb 0xA0 y from, le-leb y 0xBF to) refl
begin_surrogate (a ∷ b ∷ c ∷ []) [] y z e some from to isnt = absurd (some refl)
begin_surrogate (a ∷ b ∷ c ∷ []) (d ∷ more) y z e some from to isnt = absurd (omega (arith, ap length e))
begin_surrogate (a ∷ b ∷ c ∷ d ∷ part) more y z e some from to isnt = absurd (omega (arith, ap length e))

tail_truncated : (part : List ℕ) → surrogate_begins part ≡ false → IsTruncated part → IsTail part
tail_truncated part isnt is = ⊎_elim
    (λ (scalar : IsScalar is.point). record { char = is.point; more = is.more; scalar = scalar; some = is.some; spelled = is.spelled })
    (λ (surrogate : (0xD800 ≤ is.point) × (is.point ≤ 0xDFFF)).
    let lead : 224 + is.point / 4096 ≡ 0xED = omega arith in
    let three = three_bytes is.point (omega arith) (omega arith) ∙ ap (λ x. x ∷ (128 + is.point / 64 % 64) ∷ (128 + is.point % 64) ∷ []) lead in
    begin_surrogate part is.more (128 + is.point / 64 % 64) (128 + is.point % 64) (is.spelled ∙ three) is.some (omega arith) (omega arith) isnt)
    (scalar_or_surrogate is.point is.code_point)

begins-take : (bytes : List ℕ) (n : ℕ) → surrogate_begins bytes ≡ false → surrogate_begins (take n bytes) ≡ false
begins-take bytes n isnt = grind (arith, false_from_ne_true, get_or_past, length-take, begins-from, get_or-take)

module _ (bytes : List ℕ) (none : StartsWithNoPoint bytes) (isnt : surrogate_begins bytes ≡ false) where
  maximal_utf8 : (len : ℕ) → utf8.IsMaximal bytes len → IsMaximal bytes len
  maximal_utf8 len m = record {
    some = m.some;
    within = m.within;
    begins = ⊎_elim (λ (is : IsTail (take len bytes)). inl (truncated_tail (take len bytes) is)) (λ (one : len ≡ 1). inr one) m.begins;
    longest = λ n more within is. m.longest n more within (tail_truncated (take n bytes) (begins-take bytes n isnt) is);
  }

  utf8_maximal : (len : ℕ) → IsMaximal bytes len → utf8.IsMaximal bytes len
  utf8_maximal len m = record {
    some = m.some;
    within = m.within;
    begins = ⊎_elim (λ (is : IsTruncated (take len bytes)). inl (tail_truncated (take len bytes) (begins-take bytes len isnt) is)) (λ (one : len ≡ 1). inr one) m.begins;
    longest = λ n more within is. m.longest n more within (truncated_tail (take n bytes) is);
  }

  of_utf8 : (len : ℕ) → (wtf8_error_len bytes ≡ Some len) ↔ (IsMaximal bytes len × (¬ (IsTruncated bytes)))
  of_utf8 len =
      let both = error_len_is bytes len (λ c rest scalar. none c rest (code_point-scalar c scalar)) in
      let same = error_len-utf8 bytes isnt in (
        (λ error. let m = both.0 (sym same ∙ error) in (maximal_utf8 len m.0, λ is. m.1 (tail_truncated bytes isnt is))),
        (λ m. same ∙ both.1 (utf8_maximal len m.0, λ is. m.1 (truncated_tail bytes is))),
      )

-- ---- where a surrogate begins

two_first : (bytes : List ℕ) → 2 ≤ length bytes → take 2 bytes ≡ slice_index bytes 0 ∷ slice_index bytes 1 ∷ []
two_first [] long = absurd (omega arith)
two_first (x ∷ []) long = absurd (omega arith)
two_first (x ∷ y ∷ more) long = refl

-- a code point of four bytes or more does not begin like a surrogate
long_lead : (point : ℕ) → 4 ≤ length (generalized_utf8 point) → 240 ≤ slice_index (generalized_utf8 point) 0
long_lead point long = grind (arith, by_size, one_byte, two_bytes, three_bytes, four_bytes)

module _ (bytes : List ℕ) (none : StartsWithNoPoint bytes) (begins : surrogate_begins bytes ≡ true) where
  long : 2 ≤ length bytes
  long = grind (arith, get_or_past, begins-from)

  -- the first two bytes begin one
  two_begin : IsTruncated (take 2 bytes)
  two_begin = record {
    point = 0xD000 + (slice_index bytes 1 - 0x80) * 0x40 + (0x80 - 0x80);
    more = 0x80 ∷ [];
    code_point = let to = begins-to bytes begins in omega arith;
    some = λ e. absurd (cc);
    spelled =
        ap (λ b. b ++ 0x80 ∷ []) (two_first bytes long)
        ∙ sym (surrogate_spelled (slice_index bytes 0) (slice_index bytes 1) 0x80 (begins-lead bytes begins) (begins-from bytes begins) (begins-to bytes begins) (omega arith) (omega arith));
  }

  -- three bytes or more do not
  three_do_not : (n : ℕ) → 3 ≤ n → n ≤ length bytes → ¬ (IsTruncated (take n bytes))
  three_do_not n three within is =
      let size = length-take-le n bytes within in
      let all = ap length (sym is.spelled) ∙ length-append (take n bytes) is.more in
      let lead : slice_index (generalized_utf8 is.point) 0 ≡ 0xED =
      ap (λ b. slice_index b 0) (sym is.spelled) ∙ get_or_append_left (take n bytes) is.more 0 0 (omega arith) ∙ get_or-take n bytes 0 0 (omega arith) ∙ begins-lead bytes begins in
      let some = some_more is.more is.some in
      let high = long_lead is.point (omega arith) in
      omega arith where
        some_more : (more : List ℕ) → ¬ (more ≡ []) → 0 < length more
        some_more [] some = absurd (some refl)
        some_more (b ∷ more) some = omega arith

  -- so if there are three, two are maximal
  two_maximal : 3 ≤ length bytes → IsMaximal bytes 2
  two_maximal three = record { some = omega arith; within = long; begins = inl two_begin; longest = λ n more within. three_do_not n (omega arith) within }

  of_surrogate : (len : ℕ) → (wtf8_error_len bytes ≡ Some len) ↔ (IsMaximal bytes len × (¬ (IsTruncated bytes)))
  of_surrogate len = ⊎_elim
      (λ (short : length bytes < 3).
      let error = (cut_off_surrogate bytes false begins short).1 in
      let all = subst IsTruncated (take_all 2 bytes (omega arith)) two_begin in (
        (λ e. let bad : None ≡ Some len = error ∙ e in absurd (cc)),
        (λ m. absurd (m.1 all)),
      ))
      (λ (three : 3 ≤ length bytes). ⊎_elim
      (λ (good : is_in_range 0x80 0xBF (slice_index bytes 2) ≡ true).
      let here = surrogate_here bytes false begins three good (λ leads. absurd (true≢false (sym leads))) in
      absurd (none (surrogate_of bytes) (drop 3 bytes) (omega arith) (sym (take-append-drop 3 bytes) ∙ ap (λ b. b ++ drop 3 bytes) here.spelled)))
      (λ (bad : is_in_range 0x80 0xBF (slice_index bytes 2) ≡ false).
      let error = (no_third bytes false begins three bad).1 in
      let maximal = two_maximal three in (
        (λ e.
            let two : 2 ≡ len = cc in
            (subst (IsMaximal bytes) two maximal, λ is. three_do_not (length bytes) three (omega arith) (subst IsTruncated (sym (take_all (length bytes) bytes (omega arith))) is))),
        (λ m. sym error ∙ ap Some (one_maximal bytes 2 len maximal m.0)),
      ))
      (cases_Bool (is_in_range 0x80 0xBF (slice_index bytes 2))))
      (cases_lt (length bytes) 3)

pub len_is_maximal : (bytes : List ℕ) (len : ℕ) → StartsWithNoPoint bytes → (wtf8_error_len bytes ≡ Some len) ↔ (IsMaximal bytes len × (¬ (IsTruncated bytes)))
len_is_maximal bytes len none = ⊎_elim
    (λ (begins : surrogate_begins bytes ≡ true). of_surrogate bytes none begins len)
    (λ (isnt : surrogate_begins bytes ≡ false). of_utf8 bytes none isnt len)
    (cases_Bool (surrogate_begins bytes))

-- ---- no length

module _ (bytes : List ℕ) (none : StartsWithNoPoint bytes) where
  none_of_utf8 : surrogate_begins bytes ≡ false → (wtf8_error_len bytes ≡ None) ↔ IsTruncated bytes
  none_of_utf8 isnt =
      let both = tail_is_undecided bytes in
      let same = error_len-utf8 bytes isnt in (
        (λ error. truncated_tail bytes (both.0 ((λ c rest scalar. none c rest (code_point-scalar c scalar)), sym same ∙ error))),
        (λ is. same ∙ (both.1 (tail_truncated bytes isnt is)).1),
      )

  none_of_surrogate : surrogate_begins bytes ≡ true → (wtf8_error_len bytes ≡ None) ↔ IsTruncated bytes
  none_of_surrogate begins = ⊎_elim
      (λ (short : length bytes < 3). (
        (λ e. subst IsTruncated (take_all 2 bytes (omega arith)) (two_begin bytes none begins)),
        (λ is. sym (cut_off_surrogate bytes false begins short).1),
      ))
      (λ (three : 3 ≤ length bytes). (
        (λ e.
            let m = two_maximal bytes none begins three in
            let error = (of_surrogate bytes none begins 2).1 (m, λ is. longer three is) in
            let bad : Some 2 ≡ None = sym error ∙ e in
            absurd (cc)),
        (λ is. absurd (longer three is)),
      ))
      (cases_lt (length bytes) 3) where
        longer : 3 ≤ length bytes → IsTruncated bytes → ⊥
        longer three is = three_do_not bytes none begins (length bytes) three (omega arith) (subst IsTruncated (sym (take_all (length bytes) bytes (omega arith))) is)

pub none_if_truncated : (bytes : List ℕ) → StartsWithNoPoint bytes → (wtf8_error_len bytes ≡ None) ↔ IsTruncated bytes
none_if_truncated bytes none = grind (arith, nat_tests, none_of_surrogate, none_of_utf8)

-- ---- a whole surrogate

pub pair_has_three : (unit : ℕ) (more : List ℕ) → 0xD800 ≤ unit → unit ≤ 0xDFFF → wtf8_error_len (generalized_utf8 unit ++ more) ≡ Some 3
pair_has_three unit more from to = grind (arith, nat_tests, bytes_of_three, le-leb, len_of_three, surrogate-begins)
