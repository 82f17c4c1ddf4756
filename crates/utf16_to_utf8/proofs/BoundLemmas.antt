-- Bounds on the units of a block, by the least of its lanes and by a mask of them.
use Rattle.std.proofs.Common.{◌≡◌, ℕ, ◌+◌, ◌-◌, ◌*◌, ◌^◌, ◌<◌, ◌≤◌, Bool, true, false, cond, ltb, ltb-true, ltb-false, List, [], ◌∷◌, ◌++◌, All, length, map, get_or, slice_index, refl, sym, ap, ap₂, ◌∙◌, subst, arith}
use Rattle.std.proofs.lemmas.List.Elements.{All-append, All-cons, All-from_get_or, All-get_or, All-head, All-nil, All-tail}
use Rattle.std.proofs.lemmas.Simd.{get_or-sel_l, get_or-zip2, length-chunk, length-sel_l, length-zip2, tops_compared}
use Rattle.std.proofs.Math.Nat.{two-pow-succ}
use lib.Lanes.{chunk, mask_l, sel_l, top, zip2}
use mir.Syntax.{Width}
use mir.Val.{bits, hbits}
use Rattle.utf16_units.specs.Lanes.{HasLanes}
use Rattle.utf16_to_utf8.proofs.BlockLemmas.{halves}

-- a choice by the comparison of the lanes of two vectors
pub lanes_of_choice : (n : ℕ) (w : Width) (t : ℕ → ℕ → Bool) (x y a b : List ℕ) → length x ≡ n → length y ≡ n → length a ≡ n → length b ≡ n
    → HasLanes n (sel_l (map (top (hbits w)) (zip2 (λ p q. cond (t p q) (2 ^ bits w - 1) 0) x y)) a b) (λ i. cond (t (slice_index x i) (slice_index y i)) (slice_index a i) (slice_index b i))
lanes_of_choice n w t x y a b px py pa pb =
    let tests = zip2 t x y in
    let long : length tests ≡ n = length-zip2 t x y (px ∙ sym py) ∙ px in
    let is = ap (λ flags. sel_l flags a b) (tops_compared w t x y) in
    record {
      len = ap length is ∙ length-sel_l tests a b (omega arith) (omega arith) ∙ long;
      lanes = λ i h. ap (λ l. get_or l i 0) is ∙ get_or-sel_l tests a b i 0 (omega arith) (omega arith) (omega arith)
          ∙ ap (λ flag. cond flag (slice_index a i) (slice_index b i)) (get_or-zip2 t x y i 0 0 false (omega (arith, px)) (omega (arith, py)));
    }

-- if no bit is set, no element passes
pub none_by_bits : (p : ℕ → Bool) (P : ℕ → Type 0) → ((x : ℕ) → p x ≡ false → P x) → (xs : List ℕ) → mask_l (map p xs) ≡ 0 → All P xs
none_by_bits p P failed [] e = All-nil P
none_by_bits p P failed (x ∷ xs) e =
    let parts = first (p x) (mask_l (map p xs)) e in
    All-cons P x xs (failed x parts.0) (none_by_bits p P failed xs parts.1)
  where
    first : (b : Bool) (m : ℕ) → cond b 1 0 + 2 * m ≡ 0 → (b ≡ false) × (m ≡ 0)
    first true m e = absurd (omega arith)
    first false m e = (refl, omega arith)

-- if each bit is set, each element passes
pub all_by_bits : (p : ℕ → Bool) (P : ℕ → Type 0) → ((x : ℕ) → p x ≡ true → P x) → (xs : List ℕ) → mask_l (map p xs) + 1 ≡ 2 ^ length xs → All P xs
all_by_bits p P passed [] e = All-nil P
all_by_bits p P passed (x ∷ xs) e =
    let parts = first (p x) (mask_l (map p xs)) (2 ^ length xs) (e ∙ omega (arith, two-pow-succ (length xs))) in
    All-cons P x xs (passed x parts.0) (all_by_bits p P passed xs parts.1)
  where
    first : (b : Bool) (m k : ℕ) → cond b 1 0 + 2 * m + 1 ≡ 2 * k → (b ≡ true) × (m + 1 ≡ k)
    first true m k e = (refl, omega arith)
    first false m k e = absurd (omega arith)

-- and if each element passes, each bit is set
pub bits_of_all : (p : ℕ → Bool) (P : ℕ → Type 0) → ((x : ℕ) → P x → p x ≡ true) → (xs : List ℕ) → All P xs → mask_l (map p xs) + 1 ≡ 2 ^ length xs
bits_of_all p P passes [] all = refl
bits_of_all p P passes (x ∷ xs) all =
    let here = passes x (All-head P x xs all) in
    let more = bits_of_all p P passes xs (All-tail P x xs all) in
    ap (λ b. cond b 1 0 + 2 * mask_l (map p xs) + 1) here ∙ omega (arith, more, two-pow-succ (length xs))

-- ---- all lanes of the greater or of the lesser ones

module _ (P : ℕ → Type 0) (a b m : List ℕ) where
  both_by : length a ≡ length m → length b ≡ length m
      → ((i : ℕ) → i < length m → P (slice_index m i) → P (slice_index a i) × P (slice_index b i)) → All P m → All P a × All P b
  both_by pa pb bound all = (
    All-from_get_or P a 0 (λ i lt. (bound i (omega (arith, lt, pa)) (All-get_or P m i 0 (omega (arith, lt, pa)) all)).0),
    All-from_get_or P b 0 (λ i lt. (bound i (omega (arith, lt, pb)) (All-get_or P m i 0 (omega (arith, lt, pb)) all)).1),
  )

module _ (x y m limit : ℕ) where
  choice-below : m ≡ cond (ltb x y) x y → limit ≤ m → (limit ≤ x) × (limit ≤ y)
  choice-below is above = go (ltb x y) refl
    where
      go : (b : Bool) → ltb x y ≡ b → (limit ≤ x) × (limit ≤ y)
      go true e = let is' = is ∙ ap (λ b. cond b x y) e in (omega (arith, is', above), omega (arith, is', above, ltb-true x y e))
      go false e = let is' = is ∙ ap (λ b. cond b x y) e in (omega (arith, is', above, ltb-false x y e), omega (arith, is', above))

-- the halves of some units, and the smaller ones of their lanes
module _ (n limit : ℕ) (units a b m : List ℕ) (long : length units ≡ n + n) (pa : a ≡ chunk 0 n units) (pb : b ≡ chunk n n units) where
  both : (P : ℕ → Type 0) → All P a × All P b → All P units
  both P all = subst (All P) (ap₂ (λ x y. x ++ y) pa pb ∙ sym (halves n units long)) (All-append P a b all.0 all.1)

  length-a : length a ≡ n
  length-a = ap length pa ∙ length-chunk 0 n units (omega (arith, long))

  length-b : length b ≡ n
  length-b = ap length pb ∙ length-chunk n n units (omega (arith, long))

  pub from_smaller : HasLanes n m (λ i. cond (ltb (slice_index a i) (slice_index b i)) (slice_index a i) (slice_index b i)) → All (λ u. limit ≤ u) m → All (λ u. limit ≤ u) units
  from_smaller lanes all = both (λ u. limit ≤ u) (both_by (λ u. limit ≤ u) a b m (length-a ∙ sym lanes.len) (length-b ∙ sym lanes.len)
      (λ i lt above. choice-below _ _ _ limit (lanes.lanes i (omega (arith, lt, lanes.len))) above) all)
