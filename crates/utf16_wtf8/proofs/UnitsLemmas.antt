-- Code units and their code points undo each other.
use Rattle.std.proofs.Common.{◌≡◌, ℕ, ◌+◌, ◌-◌, ◌/◌, ◌%◌, ◌<◌, ◌≤◌, Bool, List, [], ◌∷◌, ◌++◌, All, flat_map, refl, sym, ap, ap₂, ◌∙◌, subst, ⊎_elim, arith}
use Rattle.std.proofs.lemmas.Bool.{cases_lt}
use Rattle.std.proofs.lemmas.List.Elements.{All-append, All-cons, All-head, All-nil, All-tail}
use Rattle.std.proofs.str.Utf16.{one_unit, pair_units, two_units}
use Rattle.std.specs.Char.Escape.{encode_utf16}
use Rattle.std.specs.Char.Utf16.{surrogate_pair_char}
use Rattle.utf16_units.specs.Encoding.{char_bytes, units_of}
use Rattle.utf16_units.specs.Unit.{IsLeading, IsTrailing}
use Rattle.utf16_units.proofs.SplitLemmas.{Class, class_of, leading, trailing, neither}
use Rattle.utf16_units.proofs.UnitLemmas.{units_of-units}
use Rattle.utf16_wtf8.specs.Wtf8.{HasNoPair, IsCodePoint, IsUnit, code_points}
use Rattle.utf16_wtf8.proofs.PointLemmas.{points-alone, points-before, points-nil, points-one, points-pair, points-put, put_point, put_point-alone, put_point-before, put_point-pair}

-- the units of code points
abbrev pub units_for : List ℕ → List ℕ
units_for points = flat_map encode_utf16 points

-- ---- by cases on the start of the units

-- units begin with a pair, or with a unit that is a code point by itself
data Begins : List ℕ → Type 0 where
  nothing : Begins []
  alone : (unit : ℕ) (units : List ℕ) → code_points (unit ∷ units) ≡ unit ∷ code_points units → (after : Begins units) → Begins (unit ∷ units)
  pair : (unit next : ℕ) (units : List ℕ) → IsLeading unit → IsTrailing next → (after : Begins units) → Begins (unit ∷ next ∷ units)

begins-step : (unit next : ℕ) (units : List ℕ) → Begins units → Begins (next ∷ units) → Begins (unit ∷ next ∷ units)
begins-step unit next units after following = by_class (class_of unit) where
  by_next : IsLeading unit → Class next → Begins (unit ∷ next ∷ units)
  by_next l (trailing t) = pair unit next units l t after
  by_next l (leading m) = alone unit (next ∷ units) (points-before unit next units (λ t. omega arith)) following
  by_next l (neither m t) = alone unit (next ∷ units) (points-before unit next units t) following

  by_class : Class unit → Begins (unit ∷ next ∷ units)
  by_class (leading l) = by_next l (class_of next)
  by_class (trailing t) = alone unit (next ∷ units) (points-alone unit (next ∷ units) (λ l. omega arith)) following
  by_class (neither l t) = alone unit (next ∷ units) (points-alone unit (next ∷ units) l) following

begins : (units : List ℕ) → Begins units
begins [] = nothing
begins (unit ∷ []) = alone unit [] (points-one unit ∙ ap (λ ps. unit ∷ ps) (sym points-nil)) nothing
begins (unit ∷ next ∷ units) = begins-step unit next units (begins units) (begins (next ∷ units))

-- ---- from units and back

units_pair : (unit next : ℕ) → IsLeading unit → IsTrailing next → encode_utf16 (surrogate_pair_char unit next) ≡ unit ∷ next ∷ []
units_pair unit next l t = grind (arith, pair_units)

back : {units : List ℕ} → Begins units → All IsUnit units → units_for (code_points units) ≡ units
back nothing are = ap units_for points-nil
back (alone unit units is after) are =
    ap units_for is ∙ ap₂ (λ us vs. us ++ vs) (one_unit unit (All-head IsUnit unit units are)) (back after (All-tail IsUnit unit units are))
back (pair unit next units l t after) are =
    ap units_for (points-pair unit next units l t)
    ∙ ap₂ (λ us vs. us ++ vs) (units_pair unit next l t) (back after (All-tail IsUnit next units (All-tail IsUnit unit (next ∷ units) are)))

pub there_and_back : (units : List ℕ) → All IsUnit units → units_for (code_points units) ≡ units
there_and_back units are = back (begins units) are

-- ---- the code points of units

points_below : {units : List ℕ} → Begins units → All IsUnit units → All IsCodePoint (code_points units)
points_below nothing are = subst (All IsCodePoint) (sym points-nil) (All-nil IsCodePoint)
points_below (alone unit units is after) are =
    let below : IsUnit unit = All-head IsUnit unit units are in
    subst (All IsCodePoint) (sym is) (All-cons IsCodePoint unit (code_points units) (omega arith) (points_below after (All-tail IsUnit unit units are)))
points_below (pair unit next units l t after) are =
    subst (All IsCodePoint) (sym (points-pair unit next units l t))
    (All-cons IsCodePoint (surrogate_pair_char unit next) (code_points units) (omega arith)
    (points_below after (All-tail IsUnit next units (All-tail IsUnit unit (next ∷ units) are))))

pub are_points : (units : List ℕ) → All IsUnit units → All IsCodePoint (code_points units)
are_points units are = points_below (begins units) are

-- a code point that is not leading, before others
pub no_pair-after : (point : ℕ) (points : List ℕ) → ¬ (IsLeading point) → HasNoPair points → HasNoPair (point ∷ points)
no_pair-after point [] isnt none = tt
no_pair-after point (next ∷ points) isnt none = ((λ both. isnt both.0), none)

-- a code point before one that is not trailing
pub no_pair-before : (point next : ℕ) (points : List ℕ) → ¬ (IsTrailing next) → HasNoPair (next ∷ points) → HasNoPair (point ∷ next ∷ points)
no_pair-before point next points isnt none = ((λ both. isnt both.1), none)

pub no_pair-tail : (point : ℕ) (points : List ℕ) → HasNoPair (point ∷ points) → HasNoPair points
no_pair-tail point [] none = tt
no_pair-tail point (next ∷ points) none = none.1

-- a unit before code points makes no pair of surrogates
no_pair-put : (unit : ℕ) (points : List ℕ) → HasNoPair points → HasNoPair (put_point unit points)
no_pair-put unit [] none = tt
no_pair-put unit (point ∷ points) none = by_class (class_of unit) where
  not_leading : ¬ (IsLeading unit) → HasNoPair (put_point unit (point ∷ points))
  not_leading isnt = subst HasNoPair (sym (put_point-alone unit (point ∷ points) isnt)) (no_pair-after unit (point ∷ points) isnt none)

  not_trailing : ¬ (IsTrailing point) → HasNoPair (put_point unit (point ∷ points))
  not_trailing isnt = subst HasNoPair (sym (put_point-before unit point points isnt)) (no_pair-before unit point points isnt none)

  by_point : IsLeading unit → Class point → HasNoPair (put_point unit (point ∷ points))
  by_point l (leading m) = not_trailing (λ t. omega arith)
  by_point l (neither m t) = not_trailing t
  by_point l (trailing t) =
      subst HasNoPair (sym (put_point-pair unit point points l t))
      (no_pair-after (surrogate_pair_char unit point) points (λ is. omega arith) (no_pair-tail point points none))

  by_class : Class unit → HasNoPair (put_point unit (point ∷ points))
  by_class (leading l) = by_point l (class_of point)
  by_class (trailing t) = not_leading (λ l. omega arith)
  by_class (neither l t) = not_leading l

pub are_no_pairs : (units : List ℕ) → HasNoPair (code_points units)
are_no_pairs [] = subst HasNoPair (sym points-nil) tt
are_no_pairs (unit ∷ units) = subst HasNoPair (sym (points-put unit units)) (no_pair-put unit (code_points units) (are_no_pairs units))

-- ---- from code points and back

-- a leading unit before the units of code points that do not begin with a trailing one
before_units : (unit point : ℕ) (points : List ℕ) → IsCodePoint point → ¬ (IsTrailing point) → code_points (unit ∷ units_for (point ∷ points)) ≡ unit ∷ code_points (units_for (point ∷ points))
before_units unit point points below isnt = ⊎_elim
    (λ (one : point < 0x1_0000).
    let units = ap (λ us. us ++ units_for points) (one_unit point one) in
    ap (λ us. code_points (unit ∷ us)) units ∙ points-before unit point (units_for points) isnt ∙ ap (λ us. unit ∷ code_points us) (sym units))
    (λ (two : 0x1_0000 ≤ point).
    let units = ap (λ us. us ++ units_for points) (two_units point two) in
    let lead = 0xD800 + (point - 0x1_0000) / 0x400 in
    ap (λ us. code_points (unit ∷ us)) units
    ∙ points-before unit lead ((0xDC00 + (point - 0x1_0000) % 0x400) ∷ units_for points) (λ t. omega arith)
    ∙ ap (λ us. unit ∷ code_points us) (sym units))
    (cases_lt point 0x1_0000)

alone_units : (unit : ℕ) (points : List ℕ) → All IsCodePoint points → HasNoPair (unit ∷ points) → code_points (unit ∷ units_for points) ≡ unit ∷ code_points (units_for points)
alone_units unit [] are none = points-one unit ∙ ap (λ ps. unit ∷ ps) (sym points-nil)
alone_units unit (point ∷ points) are none = by_class (class_of unit) where
  by_class : Class unit → code_points (unit ∷ units_for (point ∷ points)) ≡ unit ∷ code_points (units_for (point ∷ points))
  by_class (leading l) = before_units unit point points (All-head IsCodePoint point points are) (λ t. none.0 (l, t))
  by_class (trailing t) = points-alone unit (units_for (point ∷ points)) (λ l. omega arith)
  by_class (neither l t) = points-alone unit (units_for (point ∷ points)) l

pub back_and_there : (points : List ℕ) → All IsCodePoint points → HasNoPair points → code_points (units_for points) ≡ points
back_and_there [] are none = points-nil
back_and_there (point ∷ points) are none =
    let behind = back_and_there points (All-tail IsCodePoint point points are) (no_pair-tail point points none) in
    let below : IsCodePoint point = All-head IsCodePoint point points are in
    ⊎_elim
    (λ (one : point < 0x1_0000).
    ap (λ us. code_points (us ++ units_for points)) (one_unit point one) ∙ alone_units point points (All-tail IsCodePoint point points are) none ∙ ap (λ ps. point ∷ ps) behind)
    (λ (two : 0x1_0000 ≤ point).
    let lead = 0xD800 + (point - 0x1_0000) / 0x400 in
    let trail = 0xDC00 + (point - 0x1_0000) % 0x400 in
    let l : IsLeading lead = (omega arith, omega arith) in
    let t : IsTrailing trail = (omega arith, omega arith) in
    let same : surrogate_pair_char lead trail ≡ point = omega arith in
    ap (λ us. code_points (us ++ units_for points)) (two_units point two) ∙ points-pair lead trail (units_for points) l t
    ∙ ap₂ (λ p ps. p ∷ ps) same behind)
    (cases_lt point 0x1_0000)

-- ---- the units of UTF-16

-- the units of a code point are units
unit_below : (point : ℕ) → IsCodePoint point → All IsUnit (encode_utf16 point)
unit_below point below = ⊎_elim
    (λ (one : point < 0x1_0000). subst (All IsUnit) (sym (one_unit point one)) (All-cons IsUnit point [] one (All-nil IsUnit)))
    (λ (two : 0x1_0000 ≤ point).
    let lead = 0xD800 + (point - 0x1_0000) / 0x400 in
    let trail = 0xDC00 + (point - 0x1_0000) % 0x400 in
    subst (All IsUnit) (sym (two_units point two)) (All-cons IsUnit lead (trail ∷ []) (omega arith) (All-cons IsUnit trail [] (omega arith) (All-nil IsUnit))))
    (cases_lt point 0x1_0000)

pub are_units : (points : List ℕ) → All IsCodePoint points → All IsUnit (units_for points)
are_units [] are = All-nil IsUnit
are_units (point ∷ points) are =
    All-append IsUnit (encode_utf16 point) (units_for points) (unit_below point (All-head IsCodePoint point points are)) (are_units points (All-tail IsCodePoint point points are))

-- the bytes of code points have the units of these
pub units_of-points : (big : Bool) (points : List ℕ) → units_of big (flat_map (char_bytes big) points) ≡ units_for points
unfolding units_of
units_of-points big [] = refl
units_of-points big (point ∷ points) =
    units_of-units big (encode_utf16 point) (flat_map (char_bytes big) points) ∙ ap (λ us. encode_utf16 point ++ us) (units_of-points big points)
