-- What a pass over units finds: the greatest units are below a limit exactly if all are.
use Rattle.std.proofs.Common.{rules, ◌≡◌, ◌↔◌, ℕ, zero, suc, ◌+◌, ◌*◌, ◌%◌, ◌<◌, ◌≤◌, Bool, cond, ltb, List, [], ◌∷◌, ◌++◌, length, map, replicate, take, drop, refl, sym, ap, ◌∙◌, subst, arith, append_assoc, count_by, length-take-le, w16}
use Rattle.std.proofs.lemmas.Bool.Decides.{nat_tests}
use Rattle.std.proofs.lemmas.List.{length-map}
use Rattle.std.proofs.lemmas.List.Elements.{All-append, All-cons, All-head, All-nil, All-replicate, All-tail}
use Rattle.std.proofs.lemmas.Simd.{length-sel_l, length-zip2, ones-mask_l, tops_compared}
use Rattle.std.proofs.lemmas.List.Sums.{count_by-le-length, sum_by-append}
use Rattle.std.specs.Char.Utf16.{is_low_surrogate}
use lib.Count.{ones}
use lib.Lanes.{mask_l, sel_l, top, zip2}
use Rattle.utf16_units.specs.Encoding.{units_of}
use Rattle.utf16_units.proofs.EncodingLemmas.{All-back, All-front}
use Rattle.utf16_units.proofs.UnitsUpTo.{length-units_of, units_of-next, units_of-split}
use Rattle.utf16_units.specs.Lanes.{HasNoSurrogate, IsNoSurrogate}
use Rattle.utf16_fixed.specs.Inspection.{IsScanOf}
use Rattle.utf16_fixed.proofs.RepertoireLemmas.{AllBelow}

-- the greater of two numbers is below a limit exactly if both are
greater_below : (limit x y : ℕ) → (cond (ltb x y) y x < limit) ↔ ((x < limit) × (y < limit))
greater_below limit x y = (λ below. (grind (arith, nat_tests), grind (arith, nat_tests)), λ both. grind (arith, nat_tests))

pub lanes_below : (limit : ℕ) (xs ys : List ℕ) → length xs ≡ length ys → AllBelow limit (sel_l (zip2 ltb xs ys) ys xs) ↔ (AllBelow limit xs × AllBelow limit ys)
lanes_below limit [] [] same = (λ all. (all, all), λ both. both.0)
lanes_below limit (x ∷ xs) (y ∷ ys) same =
    let here = greater_below limit x y in
    let rest = lanes_below limit xs ys (omega (arith, same)) in (
      λ all.
          let two = here.0 (All-head (λ u. u < limit) (cond (ltb x y) y x) (sel_l (zip2 ltb xs ys) ys xs) all) in
          let others = rest.0 (All-tail (λ u. u < limit) (cond (ltb x y) y x) (sel_l (zip2 ltb xs ys) ys xs) all) in
          (All-cons (λ u. u < limit) x xs two.0 others.0, All-cons (λ u. u < limit) y ys two.1 others.1),
      λ both.
          All-cons (λ u. u < limit) (cond (ltb x y) y x) (sel_l (zip2 ltb xs ys) ys xs)
          (here.1 (All-head (λ u. u < limit) x xs both.0, All-head (λ u. u < limit) y ys both.1))
          (rest.1 (All-tail (λ u. u < limit) x xs both.0, All-tail (λ u. u < limit) y ys both.1)),
    )
lanes_below limit xs ys same = absurd (omega (arith, same))

-- the lanes of two vectors, the greater ones
abbrev pub greater_lanes : List ℕ → List ℕ → List ℕ
greater_lanes xs ys = sel_l (map (top 15) (zip2 (λ a b. cond (ltb a b) 65535 0) xs ys)) ys xs

greater_lanes-below : (limit : ℕ) (xs ys : List ℕ) → length xs ≡ length ys → AllBelow limit (greater_lanes xs ys) ↔ (AllBelow limit xs × AllBelow limit ys)
greater_lanes-below limit xs ys same =
    subst (λ bits. AllBelow limit (sel_l bits ys xs) ↔ (AllBelow limit xs × AllBelow limit ys)) (sym (tops_compared w16 ltb xs ys)) (lanes_below limit xs ys same)

length-greater_lanes : (xs ys : List ℕ) → length xs ≡ length ys → length (greater_lanes xs ys) ≡ length xs
length-greater_lanes xs ys same = grind (arith, length-map, length-zip2, length-sel_l)

-- ---- what a pass finds

pub IsScanOf-none : IsScanOf [] 0 (replicate 32 0)
IsScanOf-none = search (rules, All-replicate, All-nil)

-- all of two lists are below a limit exactly if those of each are
append_below : (limit : ℕ) (xs ys : List ℕ) → AllBelow limit (xs ++ ys) ↔ (AllBelow limit xs × AllBelow limit ys)
append_below limit xs ys = (
  (λ all. (All-front (λ u. u < limit) xs ys all, All-back (λ u. u < limit) xs ys all)),
  (λ both. All-append (λ u. u < limit) xs ys both.0 both.1),
)

counted_append : (xs ys : List ℕ) → count_by is_low_surrogate (xs ++ ys) ≡ count_by is_low_surrogate xs + count_by is_low_surrogate ys
counted_append xs ys = sum_by-append (λ u. cond (is_low_surrogate u) 1 0) xs ys

pub IsScanOf-counted : (before units : List ℕ) (trailing more : ℕ) (greatest : List ℕ) → IsScanOf before trailing greatest → length units ≡ 32
    → more ≡ count_by is_low_surrogate units → IsScanOf (before ++ units) (trailing + more) (greater_lanes greatest units)
IsScanOf-counted before units trailing more greatest was long is = record {
  counted = omega (arith, was.counted, is, counted_append before units);
  long = length-greater_lanes greatest units (was.long ∙ sym long) ∙ was.long;
  below = λ limit some.
      let old = was.below limit some in
      let both = append_below limit before units in
      let lanes = greater_lanes-below limit greatest units (was.long ∙ sym long) in (
        λ all. let parts = both.0 all in lanes.1 (old.0 parts.0, parts.1),
        λ now. let parts = lanes.0 now in both.1 (old.1 parts.0, parts.1),
      );
}

pub IsScanOf-with : (before units : List ℕ) (trailing bits : ℕ) (greatest : List ℕ) → IsScanOf before trailing greatest → length units ≡ 32
    → bits ≡ mask_l (map is_low_surrogate units) → IsScanOf (before ++ units) (trailing + ones bits) (greater_lanes greatest units)
IsScanOf-with before units trailing bits greatest was long is =
    IsScanOf-counted before units trailing (ones bits) greatest was long (ap ones is ∙ ones-mask_l is_low_surrogate units)

-- none of the units is trailing
no_low_plain : (units : List ℕ) → HasNoSurrogate units → 0 ≡ count_by is_low_surrogate units
no_low_plain [] plain = refl
no_low_plain (unit ∷ units) plain = grind (arith, counted_append, All-head, All-tail, no_low_plain units (All-tail IsNoSurrogate unit units plain))

pub IsScanOf-plain : (before units : List ℕ) (trailing : ℕ) (greatest : List ℕ) → IsScanOf before trailing greatest → length units ≡ 32
    → HasNoSurrogate units → IsScanOf (before ++ units) trailing (greater_lanes greatest units)
IsScanOf-plain before units trailing greatest was long plain =
    let none : trailing + 0 ≡ trailing = omega arith in
    subst (λ n. IsScanOf (before ++ units) n (greater_lanes greatest units)) none
    (IsScanOf-counted before units trailing 0 greatest was long (no_low_plain units plain))

-- zeros after the units change nothing
no_low : (n : ℕ) → count_by is_low_surrogate (replicate n 0) ≡ 0
no_low zero = refl
no_low (suc n) = no_low n

pub IsScanOf-zeros : (units : List ℕ) (n trailing : ℕ) (greatest : List ℕ) → IsScanOf (units ++ replicate n 0) trailing greatest → IsScanOf units trailing greatest
IsScanOf-zeros units n trailing greatest was = record {
  counted = omega (arith, was.counted, counted_append units (replicate n 0), no_low n);
  long = was.long;
  below = λ limit some.
      let old = was.below limit some in
      let both = append_below limit units (replicate n 0) in (
        λ all. old.0 (both.1 (all, All-replicate (λ u. u < limit) n 0 some)),
        λ now. (both.0 (old.1 now)).0,
      );
}

-- ---- the units up to an offset

pub record ScannedTo (big : Bool) (raw : List ℕ) (at trailing : ℕ) (greatest : List ℕ) : Type 0 where
  pub within : at ≤ length raw
  pub even : at % 2 ≡ 0
  pub scan : IsScanOf (units_of big (take at raw)) trailing greatest

pub ScannedTo-none : (big : Bool) (raw : List ℕ) (trailing : ℕ) (greatest : List ℕ) → IsScanOf [] trailing greatest → ScannedTo big raw 0 trailing greatest
unfolding units_of
ScannedTo-none big raw trailing greatest none = record { within = omega arith; even = refl; scan = none }

-- the trailing units are at most half as many as the bytes, so the count does not overflow
pub ScannedTo-few : (big : Bool) (raw : List ℕ) (at trailing : ℕ) (greatest : List ℕ) → ScannedTo big raw at trailing greatest → 2 * trailing ≤ at
ScannedTo-few big raw at trailing greatest done = grind (arith, count_by-le-length, length-units_of, length-take-le)

module _ (big : Bool) (raw : List ℕ) (at trailing : ℕ) (greatest : List ℕ) (done : ScannedTo big raw at trailing greatest) (units : List ℕ)
    (more : ℕ) (now : List ℕ) (scan : (before : List ℕ) → IsScanOf before trailing greatest → IsScanOf (before ++ units) more now) where
  -- a block
  pub ScannedTo-block : at + 64 ≤ length raw → units ≡ units_of big (take 64 (drop at raw)) → ScannedTo big raw (at + 64) more now
  ScannedTo-block within is = grind (arith, units_of-next)

  -- the last units, and zeros after them
  pub ScannedTo-all : (n : ℕ) → units ≡ units_of big (drop at raw) ++ replicate n 0 → IsScanOf (units_of big raw) more now
  ScannedTo-all n is =
      let whole = units_of-split big raw at done.even done.within in
      IsScanOf-zeros (units_of big raw) n more now
      (subst (λ us. IsScanOf us more now)
      (ap (λ us. units_of big (take at raw) ++ us) is ∙ sym (append_assoc (units_of big (take at raw)) (units_of big (drop at raw)) (replicate n 0))
      ∙ ap (λ us. us ++ replicate n 0) (sym whole))
      (scan (units_of big (take at raw)) done.scan))
