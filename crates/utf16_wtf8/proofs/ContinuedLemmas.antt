-- Code points after others, and what a surrogate's bytes begin with.
use Rattle.std.proofs.Common.{◌≡◌, ◌⊎◌, ℕ, ◌+◌, ◌-◌, ◌/◌, ◌%◌, ◌<◌, ◌≤◌, true, false, List, [], ◌∷◌, ◌++◌, All, length, slice_index, take, drop, refl, sym, ap, ap₂, ◌∙◌, subst, arith, append_assoc, append-nil, length-drop, length-take, take-add, take-append-drop, take_at, true≢false, eq-eqb, le-leb}
use Rattle.std.proofs.lemmas.List.Concat.{flat_map-append}
use Rattle.std.proofs.lemmas.List.Elements.{All-append, All-cons, All-head, All-nil, All-tail}
use Rattle.std.proofs.lemmas.Bool.Decides.{nat_tests}
use Rattle.std.specs.Char.{IsScalar}
use Rattle.std.specs.Char.Utf16.{is_high_surrogate}
use Rattle.utf16_units.specs.Unit.{IsTrailing}
use Rattle.utf16_units.proofs.FirstChar.{high_scalar}
use Rattle.utf16_units.proofs.PairLemmas.{is_of}
use Rattle.utf16_units.proofs.Utf8Lemmas.{four_bytes, one_byte, three_bytes, two_bytes}
use Rattle.utf16_wtf8.specs.FromWtf8.{IsWtf8ValidUpTo, NoPointContinues, surrogate_begins}
use Rattle.utf16_wtf8.specs.Wtf8.{HasNoPair, IsCodePoint, IsWtf8, SpellsWtf8, ends_leading, generalized_utf8}
use Rattle.utf16_wtf8.proofs.CodeLemmas.{by_size, points-follow, spelled}
use Rattle.utf16_wtf8.proofs.PointLemmas.{high, not_high}
use Rattle.utf16_wtf8.proofs.ScalarLemmas.{scalar-not_leading}

-- the first code point is a trailing surrogate
abbrev pub FirstIsTrailing : List ℕ → Type 0
FirstIsTrailing [] = ⊥
FirstIsTrailing (point ∷ points) = IsTrailing point

pub no_pair-append : (points more : List ℕ) → HasNoPair points → HasNoPair more → (ends_leading points ≡ true → ¬ (FirstIsTrailing more)) → HasNoPair (points ++ more)
no_pair-append [] more first second apart = second
no_pair-append (point ∷ []) [] first second apart = tt
no_pair-append (point ∷ []) (next ∷ more) first second apart = ((λ both. apart (high point both.0) both.1), second)
no_pair-append (point ∷ next ∷ points) more first second apart = (first.0, no_pair-append (next ∷ points) more first.1 second apart)

pub no_pair-seam : (points : List ℕ) (point : ℕ) (more : List ℕ) → HasNoPair (points ++ point ∷ more) → ends_leading points ≡ true → ¬ (IsTrailing point)
no_pair-seam [] point more none ends t = absurd (true≢false (sym ends))
no_pair-seam (first ∷ []) point more none ends t = none.0 (is_of 54 first ends, t)
no_pair-seam (first ∷ second ∷ points) point more none ends t = no_pair-seam (second ∷ points) point more none.1 ends t

pub ends_leading-point : (points : List ℕ) (point : ℕ) → ends_leading (points ++ point ∷ []) ≡ is_high_surrogate point
ends_leading-point [] point = refl
ends_leading-point (first ∷ []) point = refl
ends_leading-point (first ∷ second ∷ points) point = ends_leading-point (second ∷ points) point

ends_leading-scalars : (c : ℕ) (text : List ℕ) → All IsScalar (c ∷ text) → ends_leading (c ∷ text) ≡ false
ends_leading-scalars c [] are = not_high c (scalar-not_leading c (All-head IsScalar c [] are))
ends_leading-scalars c (d ∷ text) are = ends_leading-scalars d text (All-tail IsScalar c (d ∷ text) are)

pub ends_leading-text : (points : List ℕ) (c : ℕ) (text : List ℕ) → All IsScalar (c ∷ text) → ends_leading (points ++ c ∷ text) ≡ false
ends_leading-text [] c text are = ends_leading-scalars c text are
ends_leading-text (first ∷ []) c text are = ends_leading-scalars c text are
ends_leading-text (first ∷ second ∷ points) c text are = ends_leading-text (second ∷ points) c text are

-- WTF-8 and then code points that may follow it
pub SpellsWtf8-append : (points more front back : List ℕ) → SpellsWtf8 points front → SpellsWtf8 more back → (ends_leading points ≡ true → ¬ (FirstIsTrailing more))
    → SpellsWtf8 (points ++ more) (front ++ back)
SpellsWtf8-append points more front back first second apart = record {
  each_point = All-append IsCodePoint points more first.each_point second.each_point;
  no_pair = no_pair-append points more first.no_pair second.no_pair apart;
  spelled = flat_map-append generalized_utf8 points more ∙ ap₂ (λ f b. f ++ b) first.spelled second.spelled;
}

-- WTF-8 and then a code point that may follow it
pub SpellsWtf8-next : (bytes points : List ℕ) (read c : ℕ) (more : List ℕ) → SpellsWtf8 points (take read bytes) → IsCodePoint c
    → drop read bytes ≡ generalized_utf8 c ++ more → (ends_leading points ≡ true → ¬ (IsTrailing c))
    → SpellsWtf8 (points ++ c ∷ []) (take (read + length (generalized_utf8 c)) bytes)
SpellsWtf8-next bytes points read c more spells below begins apart =
    let k = length (generalized_utf8 c) in
    let one : SpellsWtf8 (c ∷ []) (generalized_utf8 c) = record {
      each_point = All-cons IsCodePoint c [] below (All-nil IsCodePoint);
      no_pair = tt;
      spelled = append-nil (generalized_utf8 c);
    } in
    subst (SpellsWtf8 (points ++ c ∷ []))
    (ap (λ b. take read bytes ++ b) (sym (ap (take k) begins ∙ take_at (generalized_utf8 c) more k refl)) ∙ sym (take-add read k bytes))
    (SpellsWtf8-append points (c ∷ []) (take read bytes) (generalized_utf8 c) spells one apart)

-- ---- where WTF-8 ends

at_seam : (points : List ℕ) (point : ℕ) (more : List ℕ) → All IsCodePoint (points ++ point ∷ more) → IsCodePoint point
at_seam [] point more are = All-head IsCodePoint point more are
at_seam (first ∷ points) point more are = at_seam points point more (All-tail IsCodePoint first (points ++ point ∷ more) are)

-- what is spelled after a prefix begins with a code point
module _ (bytes points : List ℕ) (read : ℕ) (within : read ≤ length bytes) (spells : SpellsWtf8 points (take read bytes)) where
  goes_on : (m : ℕ) → read < m → read < length bytes → IsWtf8 (take m bytes) → NoPointContinues (ends_leading points) (drop read bytes) → ⊥
  goes_on m past short is none =
      let n = m - read in
      let rest = drop read bytes in
      let back = take n rest in
      let same : read + n ≡ m = omega (arith, past) in
      let split : take m bytes ≡ take read bytes ++ back = ap (λ k. take k bytes) (sym same) ∙ take-add read n bytes in
      let every = is.spells in
      let follow = points-follow points is.points back spells.each_point every.each_point
      (every.spelled ∙ split ∙ ap (λ f. f ++ back) (sym spells.spelled)) in
      let size = length-take n rest in
      let left = length-drop read bytes in
      first follow.rest follow.is follow.spells (omega (arith, past, short, size, left)) where
        first : (after : List ℕ) → is.points ≡ points ++ after → spelled after ≡ take (m - read) (drop read bytes) → 0 < length (take (m - read) (drop read bytes)) → ⊥
        first [] all e some = omega (arith, some, ap length e)
        first (point ∷ after) all e some =
            let codes = subst (All IsCodePoint) all is.spells.each_point in
            let pairs = subst HasNoPair all is.spells.no_pair in
            let more = drop (m - read) (drop read bytes) in
            let begins : drop read bytes ≡ generalized_utf8 point ++ (spelled after ++ more) =
            sym (take-append-drop (m - read) (drop read bytes)) ∙ ap (λ f. f ++ more) (sym e) ∙ append_assoc (generalized_utf8 point) (spelled after) more in
            let found = none point (spelled after ++ more) (at_seam points point after codes) begins in
            no_pair-seam points point after pairs found.0 found.1

  -- if no code point continues it, it is the longest
  pub valid_to : read < length bytes → NoPointContinues (ends_leading points) (drop read bytes) → IsWtf8ValidUpTo bytes read
  valid_to short none = record {
    short = short;
    front = record { points = points; spells = spells };
    longest = λ m past is. goes_on m past short is none;
  }

-- ---- the bytes of a surrogate

-- a code point is a character or a surrogate
pub scalar_or_surrogate : (c : ℕ) → IsCodePoint c → IsScalar c ⊎ ((0xD800 ≤ c) × (c ≤ 0xDFFF))
scalar_or_surrogate c below = grind (arith, nat_tests, high_scalar)

-- its two tests
pub begins-lead : (bytes : List ℕ) → surrogate_begins bytes ≡ true → slice_index bytes 0 ≡ 0xED
begins-lead bytes e = grind (arith, nat_tests)

pub begins-from : (bytes : List ℕ) → surrogate_begins bytes ≡ true → 0xA0 ≤ slice_index bytes 1
begins-from bytes e = grind (arith, nat_tests)

pub begins-to : (bytes : List ℕ) → surrogate_begins bytes ≡ true → slice_index bytes 1 ≤ 0xBF
begins-to bytes e = grind (arith, nat_tests)

-- the three bytes of a code point of this size
pub bytes_of_three : (c : ℕ) (more : List ℕ) → 0x800 ≤ c → c < 0x1_0000
    → generalized_utf8 c ++ more ≡ (224 + c / 4096) ∷ (128 + c / 64 % 64) ∷ (128 + c % 64) ∷ more
bytes_of_three c more from below = ap (λ b. b ++ more) (three_bytes c from below)

pub surrogate-begins : (c : ℕ) (more : List ℕ) → 0xD800 ≤ c → c ≤ 0xDFFF → surrogate_begins (generalized_utf8 c ++ more) ≡ true
surrogate-begins c more from to = ap surrogate_begins (bytes_of_three c more (omega arith) (omega arith)) ∙ tests (224 + c / 4096) (128 + c / 64 % 64) (omega arith) (omega arith) (omega arith) where
  tests : (x y : ℕ) → x ≡ 0xED → 0xA0 ≤ y → y ≤ 0xBF → surrogate_begins (x ∷ y ∷ (128 + c % 64) ∷ more) ≡ true
  tests x y is least most = rw (eq-eqb x 0xED is, le-leb 0xA0 y least, le-leb y 0xBF most) refl

-- a code point whose first two bytes are like those of a surrogate is one
module _ (c : ℕ) (more : List ℕ) (below : IsCodePoint c) (begins : surrogate_begins (generalized_utf8 c ++ more) ≡ true) where
  lead : slice_index (generalized_utf8 c ++ more) 0 ≡ 0xED
  lead = begins-lead (generalized_utf8 c ++ more) begins

  next : 0xA0 ≤ slice_index (generalized_utf8 c ++ more) 1
  next = begins-from (generalized_utf8 c ++ more) begins

  first_is : (x : ℕ) (others : List ℕ) → generalized_utf8 c ++ more ≡ x ∷ others → x ≡ 0xED
  first_is x others e = ap (λ b. slice_index b 0) (sym e) ∙ lead

  pub surrogate_only : (0xD800 ≤ c) × (c ≤ 0xDFFF)
  surrogate_only = by_size c
      (λ one. absurd (omega (arith, first_is c more (ap (λ b. b ++ more) (one_byte c one)))))
      (λ from two. absurd (omega (arith, first_is (192 + c / 64) ((128 + c % 64) ∷ more) (ap (λ b. b ++ more) (two_bytes c from two)))))
      (λ high three.
      let bytes = bytes_of_three c more high three in
      let is = first_is (224 + c / 4096) ((128 + c / 64 % 64) ∷ (128 + c % 64) ∷ more) bytes in
      let second : 0xA0 ≤ 128 + c / 64 % 64 = subst (λ y. 0xA0 ≤ y) (ap (λ b. slice_index b 1) bytes) next in
      (omega arith, omega arith))
      (λ four.
      let is = first_is (240 + c / 262144) ((128 + c / 4096 % 64) ∷ (128 + c / 64 % 64) ∷ (128 + c % 64) ∷ more) (ap (λ b. b ++ more) (four_bytes c four)) in
      absurd (omega arith))
