-- The first NUL, block by block.
use Rattle.std.proofs.Common.{◌≡◌, ◌≢◌, ℕ, ◌+◌, ◌-◌, ◌*◌, ◌/◌, ◌%◌, ◌^◌, ◌<◌, ◌≤◌, Bool, true, false, not, cond, eqb, List, [], ◌∷◌, ◌++◌, All, Some, map, length, take, drop, slice_index, replicate, refl, sym, ap, ap₂, ◌∙◌, subst, arith, take_all, length-drop, length-take-le, get_or-drop, w16}
use Rattle.std.proofs.lemmas.Bool.{eqb-true, false≢true}
use Rattle.std.proofs.lemmas.List.{get_or-take, length-take, take-take}
use Rattle.std.proofs.lemmas.List.Elements.{All-append, All-cons, All-from_get_or, All-head, All-nil, All-tail}
use Rattle.std.proofs.lemmas.List.Sums.{prefix_len-le-length, prefix_len_passes, prefix_len_stops}
use Rattle.std.proofs.lemmas.Option.{get_or_from_slice_get, slice_get-get_or, slice_get_within}
use Rattle.std.proofs.lemmas.Simd.{bitmask_splat, leading_from_mask_l, trailing_mask_l}
use Rattle.std.specs.List.{prefix_len, slice_get}
use lib.Count.{count_trailing_zeros}
use lib.Lanes.{mask_l, top, zip2}
use Rattle.utf16_units.specs.Encoding.{units_of}
use Rattle.utf16_units.specs.Unit.{unit_of}
use Rattle.utf16_units.proofs.UnitsUpTo.{length-units_of, units_of-all, units_of-at, units_of-front, units_of-next, units_of-one}
use Rattle.utf16_bytes.specs.Nul.{IsNul, IsNulOffset}

abbrev is_nul : ℕ → Bool
is_nul unit = eqb unit 0

abbrev IsOther : ℕ → Type 0
IsOther unit = unit ≢ 0

-- ---- lanes

-- how many lanes come before the first that is zero, by the bits of those that are
module _ (units : List ℕ) (n : ℕ) (long : length units ≡ n) (few : n ≤ 64) where
  bits : mask_l (map (top 15) (zip2 (λ a b. cond (eqb a b) 65535 0) units (replicate n 0))) % 2 ^ 64 ≡ mask_l (map is_nul units)
  bits = bitmask_splat w16 eqb units n 0 long few

  pub lanes-none : mask_l (map (top 15) (zip2 (λ a b. cond (eqb a b) 65535 0) units (replicate n 0))) % 2 ^ 64 ≡ 0
      → n ≡ prefix_len (λ unit. not (is_nul unit)) units
  lanes-none none = sym long ∙ sym (leading_from_mask_l is_nul units (sym bits ∙ none))

  pub lanes-lowest : 0 < mask_l (map (top 15) (zip2 (λ a b. cond (eqb a b) 65535 0) units (replicate n 0))) % 2 ^ 64
      → count_trailing_zeros 64 (mask_l (map (top 15) (zip2 (λ a b. cond (eqb a b) 65535 0) units (replicate n 0))) % 2 ^ 64)
      ≡ prefix_len (λ unit. not (is_nul unit)) units
  lanes-lowest some =
      ap (count_trailing_zeros 64) bits ∙ trailing_mask_l is_nul 64 units (omega (arith, long, few)) (subst (λ m. 0 < m) bits some)

not-of : (b answer : Bool) → not b ≡ answer → b ≡ not answer
not-of true answer e = ap not e
not-of false answer e = ap not e

other-of : (unit : ℕ) → not (is_nul unit) ≡ true → IsOther unit
other-of unit e zero = false≢true (ap (λ n. not (is_nul n)) (sym zero) ∙ e)

-- ---- a NUL by its two bytes

IsNul-bytes : (big : Bool) (bytes : List ℕ) (at : ℕ) → at % 2 ≡ 0 → at + 2 ≤ length bytes
    → unit_of big (slice_index bytes at) (slice_index bytes (at + 1)) ≡ 0 → IsNul big bytes at
IsNul-bytes big bytes at even room zero =
    let twice : 2 * (at / 2) ≡ at = omega (arith, even) in (
      even,
      slice_get-get_or (units_of big bytes) (at / 2) 0 (omega (arith, length-units_of big bytes, even, room))
          ∙ ap Some (units_of-at big bytes (at / 2) (omega (arith, even, room))
          ∙ ap (λ i. unit_of big (slice_index bytes i) (slice_index bytes (i + 1))) twice ∙ zero),
    )

IsNul-room : (big : Bool) (bytes : List ℕ) (at : ℕ) → IsNul big bytes at → at + 2 ≤ length bytes
IsNul-room big bytes at nul =
    omega (arith, nul.0, slice_get_within (units_of big bytes) (at / 2) 0 nul.1, length-units_of big bytes)

IsNul-unit : (big : Bool) (bytes : List ℕ) (at : ℕ) → IsNul big bytes at → unit_of big (slice_index bytes at) (slice_index bytes (at + 1)) ≡ 0
IsNul-unit big bytes at nul =
    let twice : 2 * (at / 2) ≡ at = omega (arith, nul.0) in
    sym (ap (λ i. unit_of big (slice_index bytes i) (slice_index bytes (i + 1))) twice)
    ∙ sym (units_of-at big bytes (at / 2) (omega (arith, nul.0, IsNul-room big bytes at nul)))
    ∙ get_or_from_slice_get (units_of big bytes) (at / 2) 0 0 nul.1

-- ---- both byte orders

zero_unit : (big other : Bool) (first second : ℕ) → unit_of big first second ≡ 0 → unit_of other first second ≡ 0
zero_unit true true first second e = e
zero_unit true false first second e = omega (arith, e)
zero_unit false true first second e = omega (arith, e)
zero_unit false false first second e = e

others : (big : Bool) (bytes : List ℕ) → All IsOther (units_of false bytes) → All IsOther (units_of big bytes)
unfolding units_of
others big [] all = All-nil IsOther
others big (x ∷ []) all = All-nil IsOther
others big (x ∷ y ∷ bytes) all =
    All-cons IsOther _ _ (λ e. All-head IsOther _ _ all (zero_unit big false x y e)) (others big bytes (All-tail IsOther _ _ all))

either_order : (big : Bool) (bytes : List ℕ) (at : ℕ) → IsNulOffset false bytes at → IsNulOffset big bytes at
either_order big bytes at is = record {
  within = is.within;
  before = others big (take at bytes) is.before;
  nul = λ less.
      let nul = is.nul less in
      IsNul-bytes big bytes at nul.0 (IsNul-room false bytes at nul) (zero_unit false big _ _ (IsNul-unit false bytes at nul));
}

-- ---- whole units, as lanes

pub by_lanes : (bytes : List ℕ) → length bytes % 2 ≡ 0 → IsNulOffset false bytes (2 * prefix_len (λ unit. not (is_nul unit)) (units_of false bytes))
by_lanes bytes even =
    let units = units_of false bytes in
    let k = prefix_len (λ unit. not (is_nul unit)) units in
    let many = length-units_of false bytes in
    let few : 2 * k ≤ length bytes = omega (arith, prefix_len-le-length (λ unit. not (is_nul unit)) units, many) in
    record {
      within = few;
      before = subst (All IsOther) (units_of-front false bytes k few)
          (All-from_get_or IsOther (take k units) 0 (λ i lt.
          let less : i < k = omega (arith, lt, length-take k units) in
          subst IsOther (sym (get_or-take k units i 0 less)) (other-of _ (prefix_len_passes (λ unit. not (is_nul unit)) units i 0 less))));
      nul = λ less.
          let within : k < length units = omega (arith, less, many, even) in
          let half : 2 * k / 2 ≡ k = omega arith in (
            omega arith,
            ap (slice_get units) half ∙ slice_get-get_or units k 0 within
                ∙ ap Some (eqb-true _ _ (not-of _ _ (prefix_len_stops (λ unit. not (is_nul unit)) units 0 within))),
          );
    }

-- ---- the units up to an offset

-- no unit up to an offset is NUL
pub record LacksNulTo (bytes : List ℕ) (at : ℕ) : Type 0 where
  pub within : at ≤ length bytes
  pub even : at % 2 ≡ 0
  pub lacks : All IsOther (units_of false (take at bytes))

pub LacksNulTo-none : (bytes : List ℕ) → LacksNulTo bytes 0
unfolding units_of
LacksNulTo-none bytes = record { within = omega arith; even = refl; lacks = All-nil IsOther }

pub LacksNulTo-unit : (bytes : List ℕ) (at unit : ℕ) → LacksNulTo bytes at → at + 2 ≤ length bytes
    → unit ≡ unit_of false (slice_index bytes at) (slice_index bytes (at + 1)) → unit ≢ 0 → LacksNulTo bytes (at + 2)
LacksNulTo-unit bytes at unit to room is other = record {
  within = room;
  even = omega (arith, to.even);
  lacks = subst (All IsOther) (sym (units_of-next false bytes at 2 to.even to.within ∙ ap (λ us. units_of false (take at bytes) ++ us) (units_of-one false bytes at room)))
      (All-append IsOther _ _ to.lacks (All-cons IsOther _ [] (λ e. other (is ∙ e)) (All-nil IsOther)));
}

pub nul-unit : (bytes : List ℕ) (at unit : ℕ) → LacksNulTo bytes at → at + 2 ≤ length bytes
    → unit ≡ unit_of false (slice_index bytes at) (slice_index bytes (at + 1)) → unit ≡ 0 → IsNulOffset false bytes at
nul-unit bytes at unit to room is zero = record {
  within = to.within;
  before = to.lacks;
  nul = λ less. IsNul-bytes false bytes at to.even room (sym is ∙ zero);
}

-- a part of them
pub LacksNulTo-front : (bytes : List ℕ) (at less : ℕ) → LacksNulTo bytes at → less ≤ at → less % 2 ≡ 0 → LacksNulTo bytes less
LacksNulTo-front bytes at less to few even =
    let split : units_of false (take at bytes) ≡ units_of false (take less bytes) ++ units_of false (take (at - less) (drop less bytes)) =
    ap (λ n. units_of false (take n bytes)) (omega (arith, few)) ∙ units_of-next false bytes less (at - less) even (omega (arith, few, to.within)) in
    record { within = omega (arith, few, to.within); even = even; lacks = left _ _ (subst (All IsOther) split to.lacks) }
  where
    left : (xs ys : List ℕ) → All IsOther (xs ++ ys) → All IsOther xs
    left [] ys all = All-nil IsOther
    left (x ∷ xs) ys all = All-cons IsOther x xs (All-head IsOther x (xs ++ ys) all) (left xs ys (All-tail IsOther x (xs ++ ys) all))

-- the next n bytes
module _ (bytes : List ℕ) (at n k : ℕ) (block : List ℕ) (here : block ≡ take n (drop at bytes)) (to : LacksNulTo bytes at) (room : at + n ≤ length bytes)
    (next : IsNulOffset false block k) where
  long : length block ≡ n
  long = ap length here ∙ length-take-le n (drop at bytes) (omega (arith, length-drop at bytes, room))

  pub next-few : k ≤ n
  next-few = omega (arith, next.within, long)

  next_units : take k block ≡ take k (drop at bytes)
  next_units = ap (take k) here ∙ take-take k n (drop at bytes) next-few

  lacks_next : All IsOther (units_of false (take (at + k) bytes))
  lacks_next = subst (All IsOther)
      (sym (units_of-next false bytes at k to.even to.within ∙ ap (λ bs. units_of false (take at bytes) ++ units_of false bs) (sym next_units)))
      (All-append IsOther _ _ to.lacks next.before)

  pub LacksNulTo-next : n ≤ k → n % 2 ≡ 0 → LacksNulTo bytes (at + n)
  LacksNulTo-next all even =
      let same : k ≡ n = omega (arith, all, next-few) in
      record {
        within = room;
        even = omega (arith, to.even, even);
        lacks = subst (λ m. All IsOther (units_of false (take (at + m) bytes))) same lacks_next;
      }

  pub nul-next : (at + k < length bytes → k < n) → IsNulOffset false bytes (at + k)
  nul-next stops = record {
    within = omega (arith, next-few, room);
    before = lacks_next;
    nul = λ less.
        let nul = next.nul (omega (arith, long, stops less)) in
        let inside = IsNul-room false block k nul in
        let byte : (i : ℕ) → i < n → slice_index block i ≡ slice_index bytes (at + i) =
        λ i lt. ap (λ bs. slice_index bs i) here ∙ get_or-take n (drop at bytes) i 0 lt ∙ get_or-drop at bytes i 0 in
        let after : at + (k + 1) ≡ at + k + 1 = omega arith in
        IsNul-bytes false bytes (at + k) (omega (arith, to.even, nul.0)) (omega (arith, inside, long, room))
        (sym (ap₂ (unit_of false) (byte k (omega (arith, inside, long))) (byte (k + 1) (omega (arith, inside, long)) ∙ ap (slice_index bytes) after))
        ∙ IsNul-unit false block k nul);
  }

-- ---- all bytes, without an odd byte at the end

module _ (bytes : List ℕ) (end at : ℕ) (whole : end ≡ length bytes - length bytes % 2) (is : IsNulOffset false (take end bytes) at) where
  within_whole : end ≤ length bytes
  within_whole = omega (arith, whole)

  pub whole-found : at ≢ end → (big : Bool) → IsNulOffset big bytes at
  whole-found inside big =
      let none = LacksNulTo-none bytes in
      let room : 0 + end ≤ length bytes = omega (arith, within_whole) in
      let few = next-few bytes 0 end at (take end bytes) refl none room is in
      let same : 0 + at ≡ at = omega arith in
      either_order big bytes at (subst (IsNulOffset false bytes) same (nul-next bytes 0 end at (take end bytes) refl none room is (λ less. omega (arith, few, inside))))

  pub whole-none : at ≡ end → (big : Bool) → IsNulOffset big bytes (length bytes)
  whole-none none big =
      let all : units_of big (take (length bytes) bytes) ≡ units_of big (take at (take end bytes)) =
      ap (units_of big) (take_all (length bytes) bytes (omega arith))
      ∙ units_of-all big bytes end (omega (arith, whole)) within_whole (omega (arith, whole))
      ∙ ap (units_of big) (sym (take-take end end bytes (omega arith)) ∙ ap (λ n. take n (take end bytes)) (sym none)) in
      record {
        within = omega arith;
        before = subst (All IsOther) (sym all) (others big (take at (take end bytes)) is.before);
        nul = λ less. absurd (omega (arith, less));
      }
