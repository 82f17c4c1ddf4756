-- WTF-8 that is read in two calls: what the second one reads continues what the first one read.
use Rattle.std.proofs.Common.{◌≡◌, ◌⊎◌, inl, inr, ℕ, ◌+◌, ◌-◌, ◌<◌, ◌≤◌, Bool, true, false, List, [], ◌∷◌, ◌++◌, All, Option, None, length, take, drop, refl, sym, ap, ap₂, ◌∙◌, subst, ⊎_elim, arith, append-nil, append_assoc, length-append, length-drop, length-take-le, take-add, take-append-drop, take_at}
use Rattle.std.proofs.lemmas.Bool.{cases_lt}
use Rattle.std.proofs.lemmas.List.{drop-drop}
use Rattle.std.proofs.lemmas.List.Concat.{flat_map-append}
use Rattle.std.proofs.lemmas.List.Elements.{All-append, All-cons, All-nil}
use Rattle.std.specs.List.{flat_map}
use Rattle.utf16_units.specs.Encoding.{char_bytes}
use Rattle.utf16_units.specs.Unit.{IsTrailing}
use Rattle.utf16_wtf8.specs.FromWtf8.{EndsLeading, IsIllFormedWtf8, LeavesLeading, NextPointDoesNotFit, TranscodesFromWtf8, wtf8_error_len}
use Rattle.utf16_wtf8.specs.Laws.{BeginsTrailing}
use Rattle.utf16_wtf8.specs.Wtf8.{IsCodePoint, IsWtf8, ends_leading, generalized_utf8}
use Rattle.utf16_wtf8.proofs.CodeLemmas.{point-unique, some_bytes, spelled, spelled-unique}
use Rattle.utf16_wtf8.proofs.ConcatLemmas.{apart, joined, rest_is_wtf8}

-- the bytes of one code point are WTF-8
one_point : (point : ℕ) → IsCodePoint point → IsWtf8 (generalized_utf8 point)
one_point point below = record {
  points = point ∷ [];
  spells = record {
    each_point = All-cons IsCodePoint point [] below (All-nil IsCodePoint);
    no_pair = tt;
    spelled = append-nil (generalized_utf8 point);
  };
}

-- the last code point is in what follows, if there is any
ends_leading-back : (points : List ℕ) (point : ℕ) (more : List ℕ) → ends_leading (points ++ point ∷ more) ≡ ends_leading (point ∷ more)
ends_leading-back [] point more = refl
ends_leading-back (first ∷ []) point more = refl
ends_leading-back (first ∷ second ∷ points) point more = ends_leading-back (second ∷ points) point more

-- what was read is WTF-8
pub is_wtf8 : {big : Bool} {wtf8 raw : List ℕ} → TranscodesFromWtf8 big wtf8 raw → IsWtf8 wtf8
is_wtf8 given = record { points = given.points; spells = given.spells }

-- no trailing surrogate begins what is left after the first bytes, if they end with a leading one
abbrev pub Apart : List ℕ → ℕ → Type 0
Apart input at = (n : ℕ) → EndsLeading (take at input) true → ¬ (BeginsTrailing (take n (drop at input)))

-- a code point begins the bytes
pub record Begins (bytes : List ℕ) : Type 0 where
  pub point : ℕ
  pub more : List ℕ
  pub code_point : IsCodePoint point
  pub begins : bytes ≡ generalized_utf8 point ++ more

-- so there are some, and they begin with WTF-8
pub begins_some : (bytes : List ℕ) → Begins bytes → 0 < length bytes
begins_some bytes here = omega (arith, ap length here.begins, length-append (generalized_utf8 here.point) here.more, some_bytes here.point)

pub begins_valid : (bytes : List ℕ) → Begins bytes → (n : ℕ) (len : Option ℕ) → IsIllFormedWtf8 bytes n len → 0 < n
begins_valid bytes here n len found = ⊎_elim
    (λ (none : n < 1).
    let size = length (generalized_utf8 here.point) in
    let some = some_bytes here.point in
    let front : take size bytes ≡ generalized_utf8 here.point = ap (take size) here.begins ∙ take_at (generalized_utf8 here.point) here.more size refl in
    absurd (found.0.longest size (omega (arith, none, some)) (subst IsWtf8 (sym front) (one_point here.point here.code_point))))
    (λ (some : 1 ≤ n). omega (arith, some))
    (cases_lt n 1)

-- ---- a call stopped before a code point that does not fit

module _ (big : Bool) (input : List ℕ) (at left : ℕ) (front : IsWtf8 (take at input)) (full : NextPointDoesNotFit big input at left) where
  -- the bytes of that point begin the rest
  begins_rest : take (length (generalized_utf8 full.point)) (drop at input) ≡ generalized_utf8 full.point
  begins_rest = ap (take (length (generalized_utf8 full.point))) full.begins ∙ take_at (generalized_utf8 full.point) full.more (length (generalized_utf8 full.point)) refl

  -- it continues what was read
  with_point : IsWtf8 (take at input ++ generalized_utf8 full.point)
  with_point = subst IsWtf8 (take-add at (length (generalized_utf8 full.point)) input ∙ ap (λ b. take at input ++ b) begins_rest) full.continues

  pub apart_after : Apart input at
  apart_after n ends trail =
      let rest = drop at input in
      let below = trail.trailing.1 in
      let begins : generalized_utf8 trail.trail ++ (trail.more ++ drop n rest) ≡ generalized_utf8 full.point ++ full.more =
      sym (append_assoc (generalized_utf8 trail.trail) trail.more (drop n rest)) ∙ ap (λ b. b ++ drop n rest) (sym trail.begins) ∙ take-append-drop n rest ∙ full.begins in
      let same = point-unique trail.trail full.point (trail.more ++ drop n rest) full.more (omega (arith, below)) full.code_point begins in
      apart (take at input) (generalized_utf8 full.point) front with_point ends
      (record { trail = full.point; more = []; trailing = subst IsTrailing same.0 trail.trailing; begins = sym (append-nil (generalized_utf8 full.point)) })

  -- so something can be read of the rest
  pub goes_on : Begins (drop at input)
  goes_on = record { point = full.point; more = full.more; code_point = full.code_point; begins = full.begins }

-- ---- the rest is read

module _ (big : Bool) (input out : List ℕ) (at : ℕ) (within : at ≤ length input) (given : TranscodesFromWtf8 big (take at input) out) (clear : Apart input at) where
  abbrev rest : List ℕ
  rest = drop at input

  front : IsWtf8 (take at input)
  front = is_wtf8 given

  -- all WTF-8 at the start of the rest continues what was read
  seam : (n : ℕ) → IsWtf8 (take n rest) → IsWtf8 (take (at + n) input)
  seam n is = subst IsWtf8 (sym (take-add at n input)) (joined (take at input) (take n rest) front is (clear n))

  -- the longest prefix of the rest, and what follows it
  pub wtf8_later : (n : ℕ) (len : Option ℕ) → IsIllFormedWtf8 rest n len → IsIllFormedWtf8 input (at + n) len
  wtf8_later n len found = (
    record {
      short = omega (arith, found.0.short, length-drop at input);
      front = seam n found.0.front;
      longest = λ m past is.
          let same : m ≡ at + (m - at) = omega (arith, past) in
          let parts : take m input ≡ take at input ++ take (m - at) rest = ap (λ k. take k input) same ∙ take-add at (m - at) input in
          found.0.longest (m - at) (omega (arith, past)) (rest_is_wtf8 (take at input) (take (m - at) rest) front (subst IsWtf8 parts is));
    },
    found.1 ∙ ap wtf8_error_len (drop-drop n at input),
  )

  pub next_later : (n room : ℕ) → NextPointDoesNotFit big rest n room → NextPointDoesNotFit big input (at + n) room
  next_later n room next =
      let size = length (generalized_utf8 next.point) in
      let same : at + (n + size) ≡ (at + n) + size = omega arith in
      record {
        point = next.point;
        more = next.more;
        code_point = next.code_point;
        begins = sym (drop-drop n at input) ∙ next.begins;
        continues = subst (λ k. IsWtf8 (take k input)) same (seam (n + size) next.continues);
        too_long = next.too_long;
      }

  pub leading_later : (n : ℕ) → LeavesLeading rest n → LeavesLeading input (at + n)
  leading_later n leaves =
      let same : at + (n + 3) ≡ (at + n) + 3 = omega arith in
      record {
        lead = leaves.lead;
        leading = leaves.leading;
        within = omega (arith, leaves.within, length-drop at input);
        begins = ap (take 3) (sym (drop-drop n at input)) ∙ leaves.begins;
        after = ⊎_elim
            (λ (all : n + 3 ≡ length rest). inl (omega (arith, all, length-drop at input, within)))
            (λ (cut : IsIllFormedWtf8 rest (n + 3) None). inr (subst (λ k. IsIllFormedWtf8 input k None) same (wtf8_later (n + 3) None cut)))
            leaves.after;
      }

  -- a call that is given the rest
  module _ (more : List ℕ) (read : ℕ) (read_within : read ≤ length rest) (next : TranscodesFromWtf8 big (take read rest) more) where
    both : IsWtf8 (take (at + read) input)
    both = seam read (is_wtf8 next)

    -- the code points of both parts
    points_are : (points : List ℕ) → All IsCodePoint points → spelled points ≡ take (at + read) input → points ≡ given.points ++ next.points
    points_are points are spells =
        spelled-unique points (given.points ++ next.points) are (All-append IsCodePoint given.points next.points given.spells.each_point next.spells.each_point)
        (spells ∙ take-add at read input ∙ ap₂ (λ f b. f ++ b) (sym given.spells.spelled) (sym next.spells.spelled)
        ∙ sym (flat_map-append generalized_utf8 given.points next.points))

    pub both_units : TranscodesFromWtf8 big (take (at + read) input) (out ++ more)
    both_units = record {
      points = both.points;
      spells = both.spells;
      units =
          ap₂ (λ f b. f ++ b) given.units next.units ∙ sym (flat_map-append (char_bytes big) given.points next.points)
          ∙ ap (flat_map (char_bytes big)) (sym (points_are both.points both.spells.each_point both.spells.spelled));
    }

    -- the last code point is one of the second call's
    pub ends_later : (leading : Bool) → 0 < read → EndsLeading (take read rest) leading → EndsLeading (take (at + read) input) leading
    ends_later leading some ends points spells =
        ap ends_leading (points_are points spells.each_point spells.spelled) ∙ last next.points next.spells.spelled ∙ ends next.points next.spells where
          last : (points : List ℕ) → spelled points ≡ take read rest → ends_leading (given.points ++ points) ≡ ends_leading points
          last [] e = absurd (omega (arith, ap length e, length-take-le read rest read_within, some))
          last (point ∷ points) e = ends_leading-back given.points point points

    -- the first call's, if the second read none
    pub ends_or_stays : (0 < read) ⊎ EndsLeading (take at input) false → EndsLeading (take read rest) false → EndsLeading (take (at + read) input) false
    ends_or_stays either ends = ⊎_elim
        (λ (none : read < 1).
        let same : at ≡ at + read = omega (arith, none) in
        ⊎_elim
        (λ (some : 0 < read). ends_later false some ends)
        (λ (stays : EndsLeading (take at input) false). subst (λ n. EndsLeading (take n input) false) same stays)
        either)
        (λ (some : 1 ≤ read). ends_later false (omega (arith, some)) ends)
        (cases_lt read 1)
