-- The code points of units, and of the items and the tail of the split.
use Rattle.std.proofs.Common.{◌≡◌, ℕ, ◌≤◌, Bool, true, false, cond, List, [], ◌∷◌, ◌++◌, All, length, map, refl, sym, ap, ap₂, ◌∙◌, subst, ⊎_elim, arith, le-leb, lt-ltb}
use Rattle.std.specs.Prelude.{◌&&◌}
use Rattle.std.proofs.lemmas.Bool.{cases_Bool, false_from_ne_true}
use Rattle.std.proofs.lemmas.List.Elements.{All-cons, All-head, All-nil, All-tail}
use Rattle.std.specs.Char.Utf16.{is_high_surrogate, is_low_surrogate, surrogate_pair_char}
use Rattle.utf16_units.specs.Unit.{IsLeading, IsTrailing, unit_of}
use Rattle.utf16_units.specs.Encoding.{units_of}
use Rattle.utf16_units.specs.IllFormed.{is_incomplete}
use Rattle.utf16_units.specs.Split.{IsTail, Item, good, lone_lead, lone_trail, put_leading, put_unit, split_items, split_tail}
use Rattle.utf16_units.proofs.Computed.{IsIncomplete-from_is_incomplete}
use Rattle.utf16_units.proofs.PairLemmas.{is_of}
use Rattle.utf16_units.proofs.SplitLemmas.{Class, class_of, leading, trailing, neither, cut_items, cut_tail, put_unit-leading, put_unit-neither, put_unit-trailing, whole_items, whole_tail}
use Rattle.utf16_units.proofs.SplitUnique.{IsTail-split_tail}
use Rattle.utf16_wtf8.specs.ToWtf8.{item_point, points_of, tail_points}
use Rattle.utf16_wtf8.specs.Wtf8.{code_points}

-- ---- the tests of the two classes

pub high : (unit : ℕ) → IsLeading unit → is_high_surrogate unit ≡ true
high unit l = grind (arith, le-leb, lt-ltb)

pub low : (unit : ℕ) → IsTrailing unit → is_low_surrogate unit ≡ true
low unit t = grind (arith, le-leb, lt-ltb)

pub not_high : (unit : ℕ) → ¬ (IsLeading unit) → is_high_surrogate unit ≡ false
not_high unit isnt = false_from_ne_true (is_high_surrogate unit) (λ yes. isnt (is_of 54 unit yes))

pub not_low : (unit : ℕ) → ¬ (IsTrailing unit) → is_low_surrogate unit ≡ false
not_low unit isnt = false_from_ne_true (is_low_surrogate unit) (λ yes. isnt (is_of 55 unit yes))

and-false : (a : Bool) → (a && false) ≡ false
and-false true = refl
and-false false = refl

-- ---- a unit before code points

-- a leading unit makes a pair with a first code point that is a trailing unit
abbrev pub put_point : ℕ → List ℕ → List ℕ
put_point unit [] = unit ∷ []
put_point unit (point ∷ points) =
    cond (is_high_surrogate unit && is_low_surrogate point) (surrogate_pair_char unit point ∷ points) (unit ∷ point ∷ points)

-- a unit that is not leading is a code point by itself
pub put_point-alone : (unit : ℕ) (points : List ℕ) → ¬ (IsLeading unit) → put_point unit points ≡ unit ∷ points
put_point-alone unit [] isnt = refl
put_point-alone unit (point ∷ points) isnt =
    ap (λ t. cond (t && is_low_surrogate point) (surrogate_pair_char unit point ∷ points) (unit ∷ point ∷ points)) (not_high unit isnt)

-- and so is any before a code point that is not a trailing unit
pub put_point-before : (unit point : ℕ) (points : List ℕ) → ¬ (IsTrailing point) → put_point unit (point ∷ points) ≡ unit ∷ point ∷ points
put_point-before unit point points isnt =
    ap (λ t. cond t (surrogate_pair_char unit point ∷ points) (unit ∷ point ∷ points))
    (ap (λ t. is_high_surrogate unit && t) (not_low point isnt) ∙ and-false (is_high_surrogate unit))

pub put_point-pair : (unit point : ℕ) (points : List ℕ) → IsLeading unit → IsTrailing point
    → put_point unit (point ∷ points) ≡ surrogate_pair_char unit point ∷ points
put_point-pair unit point points l t =
    ap (λ t. cond t (surrogate_pair_char unit point ∷ points) (unit ∷ point ∷ points)) (ap₂ (λ a b. a && b) (high unit l) (low point t))

pub points-pair : (unit next : ℕ) (units : List ℕ) → IsLeading unit → IsTrailing next
    → code_points (unit ∷ next ∷ units) ≡ surrogate_pair_char unit next ∷ code_points units
unfolding code_points
points-pair unit next units l t =
    ap (λ t. cond t (surrogate_pair_char unit next ∷ code_points units) (unit ∷ code_points (next ∷ units)))
    (ap₂ (λ a b. a && b) (high unit l) (low next t))

-- a unit that is not leading, or that no trailing one follows, is a code point by itself
pub points-alone : (unit : ℕ) (units : List ℕ) → ¬ (IsLeading unit) → code_points (unit ∷ units) ≡ unit ∷ code_points units
unfolding code_points
points-alone unit [] isnt = refl
points-alone unit (next ∷ units) isnt =
    ap (λ t. cond (t && is_low_surrogate next) (surrogate_pair_char unit next ∷ code_points units) (unit ∷ code_points (next ∷ units))) (not_high unit isnt)

pub points-before : (unit next : ℕ) (units : List ℕ) → ¬ (IsTrailing next) → code_points (unit ∷ next ∷ units) ≡ unit ∷ code_points (next ∷ units)
unfolding code_points
points-before unit next units isnt =
    ap (λ t. cond t (surrogate_pair_char unit next ∷ code_points units) (unit ∷ code_points (next ∷ units)))
    (ap (λ t. is_high_surrogate unit && t) (not_low next isnt) ∙ and-false (is_high_surrogate unit))

pub points-nil : code_points [] ≡ []
unfolding code_points
points-nil = refl

pub points-one : (unit : ℕ) → code_points (unit ∷ []) ≡ unit ∷ []
unfolding code_points
points-one unit = refl

-- the code points of units without a surrogate pair at the start begin with the first unit, and
-- others with a character
pub points-put : (unit : ℕ) (units : List ℕ) → code_points (unit ∷ units) ≡ put_point unit (code_points units)
unfolding code_points
points-put unit [] = refl
points-put unit (next ∷ []) = refl
points-put unit (next ∷ third ∷ units) = by_class (class_of next) where
  alone : ¬ (IsLeading next) → code_points (unit ∷ next ∷ third ∷ units) ≡ put_point unit (code_points (next ∷ third ∷ units))
  alone isnt =
      ap (λ ps. cond (is_high_surrogate unit && is_low_surrogate next) (surrogate_pair_char unit next ∷ code_points (third ∷ units)) (unit ∷ ps))
      (points-alone next (third ∷ units) isnt)
      ∙ sym (ap (put_point unit) (points-alone next (third ∷ units) isnt))

  by_class : Class next → code_points (unit ∷ next ∷ third ∷ units) ≡ put_point unit (code_points (next ∷ third ∷ units))
  by_class (trailing t) = alone (λ l. omega arith)
  by_class (neither l t) = alone l
  by_class (leading l) = points-before unit next (third ∷ units) (λ t. omega arith) ∙ by_third (class_of third) where
    no_pair : ¬ (IsTrailing third) → unit ∷ code_points (next ∷ third ∷ units) ≡ put_point unit (code_points (next ∷ third ∷ units))
    no_pair isnt = grind (arith, points-before, put_point-before)

    by_third : Class third → unit ∷ code_points (next ∷ third ∷ units) ≡ put_point unit (code_points (next ∷ third ∷ units))
    by_third (leading m) = no_pair (λ t. omega arith)
    by_third (neither m t) = no_pair t
    by_third (trailing t) =
        let same = points-pair next third units l t in
        ap (λ ps. unit ∷ ps) same
        ∙ sym (ap (put_point unit) same ∙ put_point-before unit (surrogate_pair_char next third) (code_points units) (λ trail. omega arith))

-- ---- a unit before items

-- a character is not trailing, and a surrogate is of its class
abbrev IsClassed : Item → Type 0
IsClassed (good c) = ¬ (IsTrailing c)
IsClassed (lone_trail unit) = IsTrailing unit
IsClassed (lone_lead unit) = IsLeading unit

classed-put_leading : (unit : ℕ) (items : List Item) → IsLeading unit → All IsClassed items → All IsClassed (put_leading unit items)
unfolding put_leading
classed-put_leading unit [] l are = All-cons IsClassed (lone_lead unit) [] l are
classed-put_leading unit (good c ∷ items) l are = All-cons IsClassed (lone_lead unit) (good c ∷ items) l are
classed-put_leading unit (lone_trail trail ∷ items) l are =
    All-cons IsClassed (good (surrogate_pair_char unit trail)) items (λ is. omega arith) (All-tail IsClassed (lone_trail trail) items are)
classed-put_leading unit (lone_lead next ∷ items) l are = All-cons IsClassed (lone_lead unit) (lone_lead next ∷ items) l are

classed-put_unit : (unit : ℕ) (items : List Item) → All IsClassed items → All IsClassed (put_unit unit items)
classed-put_unit unit items are = by_class (class_of unit) where
  by_class : Class unit → All IsClassed (put_unit unit items)
  by_class (leading l) = subst (All IsClassed) (sym (put_unit-leading unit items l)) (classed-put_leading unit items l are)
  by_class (trailing t) = subst (All IsClassed) (sym (put_unit-trailing unit items t)) (All-cons IsClassed (lone_trail unit) items t are)
  by_class (neither l t) = subst (All IsClassed) (sym (put_unit-neither unit items l t)) (All-cons IsClassed (good unit) items t are)

classed-split_items : (big : Bool) (bytes : List ℕ) → All IsClassed (split_items big bytes)
unfolding split_items
classed-split_items big [] = All-nil IsClassed
classed-split_items big (last ∷ []) = All-nil IsClassed
classed-split_items big (first ∷ second ∷ bytes) = ⊎_elim
    (λ (cut : is_incomplete big (first ∷ second ∷ bytes) ≡ true). subst (All IsClassed) (sym (cut_items big first second bytes cut)) (All-nil IsClassed))
    (λ (whole : is_incomplete big (first ∷ second ∷ bytes) ≡ false).
    subst (All IsClassed) (sym (whole_items big first second bytes whole))
    (classed-put_unit (unit_of big first second) (split_items big bytes) (classed-split_items big bytes)))
    (cases_Bool (is_incomplete big (first ∷ second ∷ bytes)))

-- the code points of items and a tail
abbrev pub split_points : Bool → List Item → List ℕ → List ℕ
split_points big items tail = map item_point items ++ tail_points big tail

put-tail : (big : Bool) (unit : ℕ) (tail : List ℕ) → IsTail big tail → put_point unit (tail_points big tail) ≡ unit ∷ tail_points big tail
put-tail big unit [] ends = refl
put-tail big unit (last ∷ []) ends = refl
put-tail big unit (first ∷ second ∷ after) ends =
    put_point-before unit (unit_of big first second) [] (λ t. omega arith)

put-leading : (big : Bool) (unit : ℕ) (items : List Item) (tail : List ℕ) → IsLeading unit → All IsClassed items → IsTail big tail
    → put_point unit (split_points big items tail) ≡ split_points big (put_leading unit items) tail
unfolding put_leading
put-leading big unit [] tail l are ends = put-tail big unit tail ends
put-leading big unit (good c ∷ items) tail l are ends = put_point-before unit c (split_points big items tail) (All-head IsClassed (good c) items are)
put-leading big unit (lone_trail trail ∷ items) tail l are ends =
    put_point-pair unit trail (split_points big items tail) l (All-head IsClassed (lone_trail trail) items are)
put-leading big unit (lone_lead next ∷ items) tail l are ends =
    let n : IsLeading next = All-head IsClassed (lone_lead next) items are in
    put_point-before unit next (split_points big items tail) (λ t. omega arith)

put-items : (big : Bool) (unit : ℕ) (items : List Item) (tail : List ℕ) → All IsClassed items → IsTail big tail
    → put_point unit (split_points big items tail) ≡ split_points big (put_unit unit items) tail
put-items big unit items tail are ends = by_class (class_of unit) where
  by_class : Class unit → put_point unit (split_points big items tail) ≡ split_points big (put_unit unit items) tail
  by_class (leading l) = put-leading big unit items tail l are ends ∙ ap (λ i. split_points big i tail) (sym (put_unit-leading unit items l))
  by_class (trailing t) =
      put_point-alone unit (split_points big items tail) (λ l. omega arith) ∙ ap (λ i. split_points big i tail) (sym (put_unit-trailing unit items t))
  by_class (neither l t) = put_point-alone unit (split_points big items tail) l ∙ ap (λ i. split_points big i tail) (sym (put_unit-neither unit items l t))

-- ---- the code points of any bytes

pub units-none : (big : Bool) (bytes : List ℕ) → length bytes ≤ 1 → units_of big bytes ≡ []
unfolding units_of
units-none big [] few = refl
units-none big (last ∷ []) few = refl
units-none big (first ∷ second ∷ bytes) few = absurd (omega arith)

-- they are the code points of the items and the tail of the split
pub points_of-split : (big : Bool) (bytes : List ℕ) → points_of big bytes ≡ split_points big (split_items big bytes) (split_tail big bytes)
unfolding units_of split_items split_tail code_points
points_of-split big [] = refl
points_of-split big (last ∷ []) = refl
points_of-split big (first ∷ second ∷ bytes) =
    let unit = unit_of big first second in
    ⊎_elim
    (λ (cut : is_incomplete big (first ∷ second ∷ bytes) ≡ true).
    let few = (IsIncomplete-from_is_incomplete big (first ∷ second ∷ bytes) cut).1 in
    ap (λ us. code_points (unit ∷ us)) (units-none big bytes few)
    ∙ sym (ap₂ (λ i t. split_points big i t) (cut_items big first second bytes cut) (cut_tail big first second bytes cut)))
    (λ (whole : is_incomplete big (first ∷ second ∷ bytes) ≡ false).
    points-put unit (units_of big bytes) ∙ ap (put_point unit) (points_of-split big bytes)
    ∙ put-items big unit (split_items big bytes) (split_tail big bytes) (classed-split_items big bytes) (IsTail-split_tail big bytes)
    ∙ sym (ap₂ (λ i t. split_points big i t) (whole_items big first second bytes whole) (whole_tail big first second bytes whole)))
    (cases_Bool (is_incomplete big (first ∷ second ∷ bytes)))
