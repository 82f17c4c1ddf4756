-- What the operations on n lanes of a width compute, by index.
use Rattle.std.proofs.Common.{◌≡◌, ℕ, zero, suc, ◌+◌, ◌-◌, ◌^◌, ◌<◌, ◌++◌, ◌∷◌, [], List, Bool, true, false, cond, ltb, ltb-true, length, get_or, slice_index, replicate, map, eqb, bit_and, refl, sym, ap, ◌∙◌, arith, drop, get_or-drop, length-append}
use Rattle.std.proofs.lemmas.Bool.{and_parts}
use Rattle.std.proofs.lemmas.Simd.{get_or-chunk, get_or-replicate, get_or-sel_l, get_or-zip2, length-chunk, length-replicate, length-sel_l, length-zip2, pick_l-range_with_len, tops_compared}
use Rattle.std.specs.List.{range_with_len}
use lib.Lanes.{Each1, all_below, chunk, pick_l, sel_l, top, zip2}
use mir.Syntax.{Width}
use mir.Val.{bits, hbits}
use Rattle.utf16_units.specs.Lanes.{HasLanes}

-- an operator on two vectors, and on a vector and one number
pub lanes_of_two : (n : ℕ) (f : ℕ → ℕ → ℕ) (xs ys : List ℕ) → length xs ≡ n → length ys ≡ n → HasLanes n (zip2 f xs ys) (λ i. f (slice_index xs i) (slice_index ys i))
lanes_of_two n f xs ys p q = record {
  len = length-zip2 f xs ys (p ∙ sym q) ∙ p;
  lanes = λ i h. get_or-zip2 f xs ys i 0 0 0 (omega (arith, p)) (omega (arith, q));
}

pub lanes_of_each : (n : ℕ) (f : ℕ → ℕ → ℕ) (v : List ℕ) (x : ℕ) → length v ≡ n → HasLanes n (zip2 f v (replicate n x)) (λ i. f (slice_index v i) x)
lanes_of_each n f v x p =
    let two = lanes_of_two n f v (replicate n x) p (length-replicate n x) in
    record { len = two.len; lanes = λ i h. two.lanes i h ∙ ap (f (slice_index v i)) (get_or-replicate n i x 0 h) }

-- a choice by the comparison of each lane with a number
pub lanes_chosen : (n : ℕ) (w : Width) (t : ℕ → ℕ → Bool) (v : List ℕ) (x : ℕ) (a b : List ℕ) → length v ≡ n → length a ≡ n → length b ≡ n
    → HasLanes n (sel_l (map (top (hbits w)) (zip2 (λ x y. cond (t x y) (2 ^ bits w - 1) 0) v (replicate n x))) a b) (λ i. cond (t (slice_index v i) x) (slice_index a i) (slice_index b i))
lanes_chosen n w t v x a b p q r =
    let tests = zip2 t v (replicate n x) in
    let same = length-replicate n x in
    let long : length tests ≡ n = length-zip2 t v (replicate n x) (p ∙ sym same) ∙ p in
    let is = ap (λ flags. sel_l flags a b) (tops_compared w t v (replicate n x)) in
    record {
      len = ap length is ∙ length-sel_l tests a b (omega arith) (omega arith) ∙ long;
      lanes = λ i h. ap (λ l. get_or l i 0) is ∙ get_or-sel_l tests a b i 0 (omega arith) (omega arith) (omega arith)
          ∙ ap (λ flag. cond flag (slice_index a i) (slice_index b i)) (get_or-zip2 t v (replicate n x) i 0 0 false (omega arith) (omega (arith, same)) ∙ ap (t (slice_index v i)) (get_or-replicate n i x 0 h));
    }

-- a choice by the comparison of each lane under a mask with a number
pub lanes_chosen_masked : (n : ℕ) (w : Width) (v : List ℕ) (m x : ℕ) (a b : List ℕ) → length v ≡ n → length a ≡ n → length b ≡ n
    → HasLanes n (sel_l (map (top (hbits w)) (zip2 (λ x y. cond (eqb x y) (2 ^ bits w - 1) 0) (zip2 bit_and v (replicate n m)) (replicate n x))) a b)
    (λ i. cond (eqb (bit_and (slice_index v i) m) x) (slice_index a i) (slice_index b i))
lanes_chosen_masked n w v m x a b p q r =
    let masked = lanes_of_each n bit_and v m p in
    let chosen = lanes_chosen n w eqb (zip2 bit_and v (replicate n m)) x a b masked.len q r in
    record { len = chosen.len; lanes = λ i h. chosen.lanes i h ∙ ap (λ y. cond (eqb y x) (slice_index a i) (slice_index b i)) (masked.lanes i h) }

-- the lane before each of n + 1; before the first, the last one of another vector
pub lanes_behind : (n : ℕ) (previous v : List ℕ) → length previous ≡ n + 1 → length v ≡ n + 1
    → HasLanes (n + 1) (pick_l 0 (previous ++ v) (range_with_len n (n + 1))) (λ i. slice_index (slice_index previous n ∷ v) i)
lanes_behind n previous v p q =
    let both = previous ++ v in
    let long = length-append previous v in
    let picked : pick_l 0 both (range_with_len n (n + 1)) ≡ chunk n (n + 1) both = pick_l-range_with_len 0 both n (n + 1) (omega (arith, long, p, q)) in
    record {
      len = ap length picked ∙ length-chunk n (n + 1) both (omega (arith, long, p, q));
      lanes = λ i h. ap (λ l. get_or l i 0) picked ∙ get_or-chunk n (n + 1) both i 0 h ∙ sym (get_or-drop n both i 0) ∙ ap (λ l. get_or l i 0) (last_dropped n previous v p);
    }
  where
    last_dropped : (n : ℕ) (xs ys : List ℕ) → length xs ≡ n + 1 → drop n (xs ++ ys) ≡ get_or xs n 0 ∷ ys
    last_dropped n [] ys p = absurd (omega arith)
    last_dropped zero (x ∷ []) ys p = refl
    last_dropped zero (x ∷ y ∷ xs) ys p = absurd (omega arith)
    last_dropped (suc n) (x ∷ xs) ys p = last_dropped n xs ys (omega arith)

-- a test of all lanes at once
pub all_below-each : (n : ℕ) (v : List ℕ) → all_below n v ≡ true → Each1 (λ x. x < n) v
all_below-each n [] all = tt
all_below-each n (x ∷ v) all =
    let parts = and_parts (ltb x n) (all_below n v) all in
    (ltb-true x n parts.0, all_below-each n v parts.1)
