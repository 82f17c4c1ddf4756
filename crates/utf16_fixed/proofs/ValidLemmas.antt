-- Well-formed UTF-32, and the first code unit that is not a scalar value.
use Rattle.std.proofs.lemmas.Bool.Decides.{nat_tests}
use Rattle.std.proofs.Common.{◌≡◌, ◌≢◌, ℕ, All, ◌<◌, ◌≤◌, ◌+◌, ◌-◌, ◌/◌, ◌%◌, ◌^◌, Bool, false, cond, eqb, ap, ◌∙◌, List, [], ◌∷◌, Option, None, Some, length, length-drop, map, replicate, take, drop, slice_index, refl, sym, subst, arith, take-add, true≢false}
use mir.Syntax.{Width}
use mir.Val.{bits, hbits}
use borrow.Author.Tests.{eq-eqb}
use lib.Lanes.{mask_l, top, zip2}
use Rattle.std.proofs.lemmas.Bool.{ltb-false}
use Rattle.std.proofs.lemmas.List.Elements.{All-append, All-cons, All-head, All-nil, All-tail, All-weaker}
use Rattle.std.proofs.lemmas.Simd.{bitmask_splat, map-map, zip2_splat}
use Rattle.std.proofs.lemmas.List.{get_or-drop, length-map, take_more}
use Rattle.std.proofs.Math.Utf8.{low_scalar}
use Rattle.std.specs.Char.{IsScalar}
use Rattle.utf16_units.proofs.FirstChar.{high_scalar}
use Rattle.utf16_units.proofs.IllFormedLemmas.{rest_from}
use Rattle.utf16_transcode.proofs.StreamSteps.{rest_after}
use Rattle.utf16_transcode.specs.Stops.{BeginsWith}
use Rattle.utf16_fixed.specs.Stops32.{IsIllFormedUtf32, IsIllFormedUtf32At}
use Rattle.utf16_fixed.specs.Utf32.{IsUtf32, above, utf32_units}

-- the first code unit is a character
pub begins : (rest : List ℕ) → 0 < length rest → IsScalar (slice_index rest 0) → BeginsWith utf32_units rest (slice_index rest 0) 1
begins [] some scalar = absurd (omega (arith, some))
begins (c ∷ rest) some scalar = record { scalar = scalar; within = omega arith; some = omega arith; spelled = refl }

-- the first code unit after valid ones is ill-formed
pub ill_formed_there : (units : List ℕ) (read : ℕ) (len : Option ℕ) → read < length units → IsUtf32 (take read units) → IsIllFormedUtf32At (drop read units) len
    → IsIllFormedUtf32 units read len
ill_formed_there units read None within valid here = here
ill_formed_there units read (Some len) within valid here = grind (arith, get_or-drop)

-- an ill-formed code unit, seen from the rest
pub other_after : (units : List ℕ) (read n len : ℕ) → IsIllFormedUtf32 (rest_from units read) n (Some len)
    → (0 < length (rest_from units (read + n))) × (¬ IsScalar (slice_index (rest_from units (read + n)) 0))
other_after units read n len found =
    let rest = rest_from units read in
    let same = sym (rest_after units read n) in
    let at : n + 0 ≡ n = omega arith in (
      subst (λ r. 0 < length r) (sym same) (omega (arith, length-drop n rest, found.1.within)),
      λ scalar. found.1.ill_formed (subst IsScalar (ap (λ r. slice_index r 0) same ∙ get_or-drop n rest 0 0 ∙ ap (slice_index rest) at) scalar),
    )

-- ---- blocks

-- where no bit is set, no lane passes the test
pub none_set : (p : ℕ → Bool) (units : List ℕ) → mask_l (map p units) ≡ 0 → All (λ unit. p unit ≡ false) units
none_set p [] zero = All-nil (λ unit. p unit ≡ false)
none_set p (u ∷ units) zero = grind (arith, nat_tests, All-cons, none_set p units)

pub none_above : (limit : ℕ) (units : List ℕ) (bits : ℕ) → bits ≡ mask_l (map (above limit) units) → bits ≡ 0 → All (λ unit. unit ≤ limit) units
none_above limit units bits are zero = All-weaker (λ unit. above limit unit ≡ false) (λ unit. unit ≤ limit) (λ unit. ltb-false limit unit) units (none_set (above limit) units (sym are ∙ zero))

-- lanes shifted and compared
pub no_surrogate-lanes : (w : Width) (n : ℕ) (units : List ℕ) → length units ≡ n → n ≤ 64
    → mask_l (map (top (hbits w)) (zip2 (λ (a b : ℕ). cond (eqb a b) (2 ^ bits w - 1) 0) (zip2 (λ (u bits : ℕ). u / 2 ^ bits) units (replicate n 11)) (replicate n 0x1B))) % 2 ^ 64 ≡ 0
    → All (λ unit. unit / 0x800 ≢ 0x1B) units
no_surrogate-lanes w n units long few zero =
    let highs = zip2_splat (λ (u bits : ℕ). u / 2 ^ bits) units n 11 long in
    let many : length (zip2 (λ (u bits : ℕ). u / 2 ^ bits) units (replicate n 11)) ≡ n = ap length highs ∙ length-map units (λ u. u / 2 ^ 11) ∙ long in
    let set : mask_l (map (λ unit. eqb (unit / 0x800) 0x1B) units) ≡ 0 =
    ap mask_l (sym (map-map (λ x. eqb x 0x1B) (λ u. u / 0x800) units)) ∙ ap (λ xs. mask_l (map (λ x. eqb x 0x1B) xs)) (sym highs)
    ∙ sym (bitmask_splat w eqb (zip2 (λ (u bits : ℕ). u / 2 ^ bits) units (replicate n 11)) n 0x1B many few) ∙ zero in
    All-weaker (λ unit. eqb (unit / 0x800) 0x1B ≡ false) (λ unit. unit / 0x800 ≢ 0x1B)
    (λ unit none same. true≢false (sym (eq-eqb _ _ same) ∙ none)) units (none_set (λ unit. eqb (unit / 0x800) 0x1B) units set)

scalar_value : (unit : ℕ) → unit ≤ 0x10_FFFF → unit / 0x800 ≢ 0x1B → IsScalar unit
scalar_value unit most none = grind (arith, nat_tests, low_scalar, high_scalar)

pub scalar_values : (units : List ℕ) → All (λ unit. unit ≤ 0x10_FFFF) units → All (λ unit. unit / 0x800 ≢ 0x1B) units → IsUtf32 units
scalar_values [] most none = All-nil IsScalar
scalar_values (u ∷ units) most none = grind (arith, All-cons, scalar_value, All-head, All-tail, scalar_values units)

-- ---- one part after another

pub IsUtf32-next : (units : List ℕ) (at n : ℕ) → IsUtf32 (take at units) → IsUtf32 (take n (drop at units)) → IsUtf32 (take (at + n) units)
IsUtf32-next units at n front next = subst IsUtf32 (sym (take-add at n units)) (All-append IsScalar (take at units) (take n (drop at units)) front next)

pub IsUtf32-one : (units : List ℕ) (at : ℕ) → at < length units → IsUtf32 (take at units) → IsScalar (slice_index units at) → IsUtf32 (take (at + 1) units)
IsUtf32-one units at within front scalar =
    subst IsUtf32 (sym (take_more units at 0 within)) (All-append IsScalar (take at units) (slice_index units at ∷ []) front (All-cons IsScalar _ [] scalar (All-nil IsScalar)))

-- ---- characters of one unit, one by one
