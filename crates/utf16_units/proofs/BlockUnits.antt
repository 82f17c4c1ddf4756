-- The units of a block that is read at once, and the bytes of one that is written at once.
use Rattle.std.proofs.Common.{◌≡◌, ℕ, zero, suc, ◌+◌, ◌-◌, ◌*◌, ◌/◌, ◌%◌, ◌^◌, ◌≤◌, Bool, true, false, cond, List, [], ◌∷◌, ◌++◌, length, map, drop, replicate, refl, ap, ap₂, ◌∙◌, arith, Fits, w8, w16, flat_map}
use Rattle.std.proofs.lemmas.List.{drop-replicate, length-map}
use Rattle.std.proofs.lemmas.Simd.{zip2_of_maps, zip2_splat}
use lib.Lanes.{Each1, digits_l, number_l, zip2}
use Rattle.utf16_units.specs.Encoding.{units_of}
use Rattle.utf16_units.specs.Lanes.{swapped}
use Rattle.utf16_units.specs.Unit.{unit_bytes, unit_of}
use Rattle.utf16_units.proofs.UnitLemmas.{unit_bytes-unit_of}

-- lanes shifted left and right by eight bits, and joined
pub swapped-lanes : (n : ℕ) (units : List ℕ) → length units ≡ n
    → zip2 (λ (a b : ℕ). (a + b) % 2 ^ 16) (zip2 (λ (u bits : ℕ). u * 2 ^ bits % 2 ^ 16) units (replicate n 8)) (zip2 (λ (u bits : ℕ). u / 2 ^ bits) units (replicate n 8)) ≡ map swapped units
swapped-lanes n units long =
    zip2_of_maps (λ (a b : ℕ). (a + b) % 2 ^ 16) (λ (u : ℕ). u * 2 ^ 8 % 2 ^ 16) (λ (u : ℕ). u / 2 ^ 8) units
    (zip2_splat (λ (u bits : ℕ). u * 2 ^ bits % 2 ^ 16) units n 8 long) (zip2_splat (λ (u bits : ℕ). u / 2 ^ bits) units n 8 long)

-- ---- bytes read as units

little-units : (n : ℕ) (bytes : List ℕ) → length bytes ≡ n + n → Each1 (Fits w8) bytes → digits_l 65536 n (number_l 256 bytes) ≡ units_of false bytes
unfolding units_of
little-units zero [] long fit = refl
little-units zero (x ∷ bytes) long fit = absurd (omega arith)
little-units (suc n) [] long fit = absurd (omega arith)
little-units (suc n) (x ∷ []) long fit = absurd (omega arith)
little-units (suc n) (x ∷ y ∷ bytes) long fit =
    let low = fit.0.fits in
    let high = fit.1.0.fits in
    ap₂ (λ u us. u ∷ us) (omega (arith, low, high))
    (ap (digits_l 65536 n) (omega (arith, low, high)) ∙ little-units n bytes (omega arith) fit.1.1)

swapped-units : (bytes : List ℕ) → Each1 (Fits w8) bytes → map swapped (units_of false bytes) ≡ units_of true bytes
unfolding units_of
swapped-units [] fit = refl
swapped-units (x ∷ []) fit = refl
swapped-units (x ∷ y ∷ bytes) fit =
    let low = fit.0.fits in
    let high = fit.1.0.fits in
    ap₂ (λ u us. u ∷ us) (omega (arith, low, high)) (swapped-units bytes fit.1.1)

pub units-read : (big : Bool) (n : ℕ) (bytes : List ℕ) → length bytes ≡ n + n → Each1 (Fits w8) bytes
    → (let units = digits_l 65536 n (number_l 256 bytes) in cond big (map swapped units) units) ≡ units_of big bytes
units-read true n bytes long fit = ap (map swapped) (little-units n bytes long fit) ∙ swapped-units bytes fit
units-read false n bytes long fit = little-units n bytes long fit

-- ---- units written as bytes

little-bytes : (n : ℕ) (units : List ℕ) → length units ≡ n → Each1 (Fits w16) units → digits_l 256 (n + n) (number_l 65536 units) ≡ flat_map (unit_bytes false) units
little-bytes zero [] long fit = refl
little-bytes zero (u ∷ units) long fit = absurd (omega arith)
little-bytes (suc n) [] long fit = absurd (omega arith)
little-bytes (suc n) (u ∷ units) long fit =
    let rest = number_l 65536 units in
    let below = fit.0.fits in
    let two : suc n + suc n ≡ suc (suc (n + n)) = omega arith in
    ap (λ k. digits_l 256 k (u + 65536 * rest)) two
    ∙ ap₂ (λ x xs. x ∷ xs) (omega (arith, below))
    (ap₂ (λ x xs. x ∷ xs) (omega (arith, below)) (ap (digits_l 256 (n + n)) (omega (arith, below)) ∙ little-bytes n units (omega arith) fit.1))

swapped-bytes : (units : List ℕ) → Each1 (Fits w16) units → flat_map (unit_bytes false) (map swapped units) ≡ flat_map (unit_bytes true) units
swapped-bytes [] fit = refl
swapped-bytes (u ∷ units) fit =
    let below = fit.0.fits in
    ap₂ (λ x xs. x ++ xs) (ap₂ (λ x y. x ∷ y ∷ []) (omega (arith, below)) (omega (arith, below))) (swapped-bytes units fit.1)

swapped-fit : (units : List ℕ) → Each1 (Fits w16) (map swapped units)
swapped-fit [] = tt
swapped-fit (u ∷ units) = (record { fits = omega arith }, swapped-fit units)

pub bytes-written : (big : Bool) (n : ℕ) (units : List ℕ) → length units ≡ n → Each1 (Fits w16) units
    → digits_l 256 (n + n) (number_l 65536 (cond big (map swapped units) units)) ≡ flat_map (unit_bytes big) units
bytes-written true n units long fit = little-bytes n (map swapped units) (length-map units swapped ∙ long) (swapped-fit units) ∙ swapped-bytes units fit
bytes-written false n units long fit = little-bytes n units long fit

-- ---- round trip

-- whole units encode to the bytes that they were read from
pub bytes-units_of : (big : Bool) (n : ℕ) (bytes : List ℕ) → length bytes ≡ n + n → Each1 (Fits w8) bytes → flat_map (unit_bytes big) (units_of big bytes) ≡ bytes
unfolding units_of
bytes-units_of big zero [] long fit = refl
bytes-units_of big zero (x ∷ bytes) long fit = absurd (omega arith)
bytes-units_of big (suc n) [] long fit = absurd (omega arith)
bytes-units_of big (suc n) (x ∷ []) long fit = absurd (omega arith)
bytes-units_of big (suc n) (x ∷ y ∷ bytes) long fit =
    ap₂ (λ xs ys. xs ++ ys) (unit_bytes-unit_of big x y fit.0.fits fit.1.0.fits) (bytes-units_of big n bytes (omega arith) fit.1.1)

-- ---- a block padded with zeros

zeros-units : (big : Bool) (k : ℕ) → units_of big (replicate (k + k) 0) ≡ replicate k 0
unfolding units_of
zeros-units big zero = refl
zeros-units big (suc k) =
    let two : suc k + suc k ≡ suc (suc (k + k)) = omega arith in
    ap (λ n. units_of big (replicate n 0)) two ∙ ap₂ (λ u us. u ∷ us) (zero_unit big) (zeros-units big k)
  where
    zero_unit : (big : Bool) → unit_of big 0 0 ≡ 0
    zero_unit true = refl
    zero_unit false = refl

units_of-zeros : (big : Bool) (k : ℕ) (bytes : List ℕ) → length bytes % 2 ≡ 0 → units_of big (bytes ++ replicate (k + k) 0) ≡ units_of big bytes ++ replicate k 0
unfolding units_of
units_of-zeros big k [] even = zeros-units big k
units_of-zeros big k (x ∷ []) even = absurd (omega arith)
units_of-zeros big k (x ∷ y ∷ bytes) even = ap (λ us. unit_of big x y ∷ us) (units_of-zeros big k bytes (omega arith))

-- the units of less than a block of n units, padded
pub units_of-filled : (big : Bool) (n : ℕ) (bytes : List ℕ) → length bytes ≤ n + n → length bytes % 2 ≡ 0
    → units_of big (bytes ++ drop (length bytes) (replicate (n + n) 0)) ≡ units_of big bytes ++ replicate (n - length bytes / 2) 0
units_of-filled big n bytes few even =
    let k = n - length bytes / 2 in
    let both : n + n - length bytes ≡ k + k = omega (arith, few, even) in
    let zeros : ◌≡◌ {A = List ℕ} (drop (length bytes) (replicate (n + n) 0)) (replicate (n + n - length bytes) 0) = drop-replicate (length bytes) (n + n) 0 in
    rw (zeros, both) (units_of-zeros big k bytes even)
