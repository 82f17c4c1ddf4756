-- What the bytes of a block and the greatest of them are below.
use Rattle.std.proofs.Common.{◌≡◌, ℕ, ◌+◌, ◌-◌, ◌<◌, ◌≤◌, ◌==◌, ⊎_elim, Bool, true, false, cond, ltb, List, slice_index, ap, arith}
use Rattle.std.proofs.lemmas.Bool.{cases_lt}
use Rattle.std.proofs.lemmas.Simd.{get_or-chunk}
use Rattle.std.specs.Simd.Lanes.{chunk}
use Rattle.utf16_units.specs.Lanes.{HasLanes}
use Rattle.utf16_from_utf8.specs.Follow.{AreBelow, limit_of}

pub limit-two : (most : ℕ) → most ≡ 2 → limit_of most ≡ 0xE0
limit-two most is = ap limit_of is

pub limit-three : (most : ℕ) → most ≡ 3 → limit_of most ≡ 0xF0
limit-three most is = ap limit_of is

-- the greater of two lanes is below what both are below
pub below-greatest : (limit : ℕ) (a b m : List ℕ) → HasLanes 16 m (λ i. cond (ltb (slice_index a i) (slice_index b i)) (slice_index b i) (slice_index a i))
    → ((i : ℕ) → i < 16 → slice_index a i < limit) → ((i : ℕ) → i < 16 → slice_index b i < limit) → (i : ℕ) → i < 16 → slice_index m i < limit
below-greatest limit a b m lanes p q i below = omega (arith, lanes.lanes i below, either (ltb (slice_index a i) (slice_index b i)))
  where
    either : (t : Bool) → cond t (slice_index b i) (slice_index a i) < limit
    either true = q i below
    either false = p i below

pub chunk-below : (bytes : List ℕ) (at place from limit : ℕ) → place ≡ at + from → from + 16 ≤ 64 → AreBelow 64 bytes at limit → (i : ℕ) → i < 16 → slice_index (chunk place 16 bytes) i < limit
chunk-below bytes at place from limit is within all i below =
    omega (arith, get_or-chunk place 16 bytes i 0 below, all (from + i) (omega (arith, within, below)), ap (slice_index bytes) there)
  where
    there : place + i ≡ at + (from + i)
    there = omega (arith, is)

pub limit-some : (most : ℕ) → 0 < limit_of most
limit-some most = either (most == 2) (most == 3)
  where
    either : (a b : Bool) → 0 < cond a 0xE0 (cond b 0xF0 0x100)
    either true b = omega arith
    either false true = omega arith
    either false false = omega arith

-- ---- the greatest lanes of four blocks

module _ (piece : List ℕ) (at limit : ℕ) where
  from-chunk : (n : ℕ) → ((i : ℕ) → i < 16 → slice_index (chunk n 16 piece) i < limit) → (i : ℕ) → n ≤ at + i → at + i < n + 16 → slice_index piece (at + i) < limit
  from-chunk n below i from to =
      let k = at + i - n in
      let here : n + k ≡ at + i = omega arith in
      let small : k < 16 = omega arith in
      omega (arith, below k small, get_or-chunk n 16 piece k 0 small, ap (slice_index piece) here)

  pub four-below : ((i : ℕ) → i < 16 → slice_index (chunk at 16 piece) i < limit) → ((i : ℕ) → i < 16 → slice_index (chunk (at + 16) 16 piece) i < limit)
      → ((i : ℕ) → i < 16 → slice_index (chunk (at + 32) 16 piece) i < limit) → ((i : ℕ) → i < 16 → slice_index (chunk (at + 48) 16 piece) i < limit)
      → (i : ℕ) → i < 64 → slice_index piece (at + i) < limit
  four-below first second third fourth i below = ⊎_elim
      (λ (a : i < 16). from-chunk at first i (omega arith) (omega arith))
      (λ (a : 16 ≤ i). ⊎_elim
      (λ (b : i < 32). from-chunk (at + 16) second i (omega arith) (omega arith))
      (λ (b : 32 ≤ i). ⊎_elim
      (λ (c : i < 48). from-chunk (at + 32) third i (omega arith) (omega arith))
      (λ (c : 48 ≤ i). from-chunk (at + 48) fourth i (omega arith) (omega arith))
      (cases_lt i 48))
      (cases_lt i 32))
      (cases_lt i 16)

  pub below-further : (n at' : ℕ) → at' ≡ at + n → n + 16 ≤ 64 → ((i : ℕ) → i < 64 → slice_index piece (at + i) < limit) → (i : ℕ) → i < 16 → slice_index piece (at' + i) < limit
  below-further n at' is room all i below =
      let place : at + (n + i) ≡ at' + i = omega (arith, is) in
      omega (arith, all (n + i) (omega arith), ap (slice_index piece) place)
