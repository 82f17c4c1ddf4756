-- Sixteen bytes: the bits of those that are not zero, and two vectors interleaved.
use Rattle.std.proofs.Common.{◌-◌, get_or, ltb, ltb-true, ltb-false, ◌+◌, ◌*◌, ◌≤◌, ◌++◌, ◌∷◌, [], ap₂, eqb-true, ◌/◌, ◌%◌, ◌^◌, true, not, eqb, subst, ◌≡◌, ℕ, ◌<◌, Bool, false, cond, ⊎_elim, List, map, length, slice_index, replicate, refl, sym, ap, ◌∙◌, arith, w8, w16}
use Rattle.std.proofs.lemmas.Bool.{cases_Bool, cases_lt}
use Rattle.std.proofs.lemmas.Nat.Bits.{bit_at-trailing_zeros, bit_at-zero}
use Rattle.std.proofs.lemmas.List.{get_or-map, length-map}
use Rattle.std.proofs.lemmas.Simd.{get_or-sel_l, get_or-zip2, length-sel_l, mask_l-mod, pick_l_whole, bit_mask_l, bitmask_splat, mask_l-lt, length-zip2, tops_compared}
use Rattle.std.specs.Int.{trailing_zeros}
use Rattle.std.specs.List.{range_with_len}
use lib.Lanes.{pick_l, mask_l, sel_l, top, zip2}
use mir.Syntax.{Width}
use mir.Val.{bits, hbits}
use Rattle.utf16_units.specs.Lanes.{HasLanes}
use Rattle.utf16_from_utf8.specs.Lanes.{pairs_of}

-- the bits of the lanes that are not zero
pub bits-set : (v : List ℕ) → length v ≡ 16 → mask_l (map (top 7) (zip2 (λ a b. cond (not (eqb a b)) 255 0) v (replicate 16 0))) % 2 ^ 64 ≡ mask_l (map (λ x. not (eqb x 0)) v)
bits-set v long = bitmask_splat w8 (λ (a b : ℕ). not (eqb a b)) v 16 0 long (omega arith)

pub bit-set : (v : List ℕ) (bits : ℕ) → length v ≡ 16 → bits ≡ mask_l (map (λ x. not (eqb x 0)) v)
    → (i : ℕ) → i < 16 → ◌≡◌ {A = ℕ} (bits / 2 ^ i % 2) (cond (eqb (slice_index v i) 0) 0 1)
bit-set v bits long is i below =
    ap (λ n. n / 2 ^ i % 2) is
    ∙ bit_mask_l (map (λ x. not (eqb x 0)) v) i
    ∙ ap (λ b. cond b 1 0) (get_or-map (λ x. not (eqb x 0)) v i 0 false (omega (arith, long)))
    ∙ turn (eqb (slice_index v i) 0)
  where
    turn : (b : Bool) → ◌≡◌ {A = ℕ} (cond (not b) 1 0) (cond b 0 1)
    turn true = refl
    turn false = refl

pub few-set : (v : List ℕ) (bits : ℕ) → length v ≡ 16 → bits ≡ mask_l (map (λ x. not (eqb x 0)) v) → bits < 2 ^ 16
few-set v bits long is =
    subst (λ k. bits < 2 ^ k) (length-map v (λ x. not (eqb x 0)) ∙ long) (subst (λ n. n < 2 ^ length (map (λ x. not (eqb x 0)) v)) (sym is) (mask_l-lt (map (λ x. not (eqb x 0)) v)))

-- no bit is set exactly if every lane is zero
pub zero_lane : (v : List ℕ) (bits : ℕ) → bits ≡ 0 → ((i : ℕ) → i < 16 → ◌≡◌ {A = ℕ} (bits / 2 ^ i % 2) (cond (eqb (slice_index v i) 0) 0 1))
    → (i : ℕ) → i < 16 → slice_index v i ≡ 0
zero_lane v bits none set i below = ⊎_elim
    (λ (is : eqb (slice_index v i) 0 ≡ true). eqb-true _ _ is)
    (λ (not_zero : eqb (slice_index v i) 0 ≡ false).
    let one = set i below ∙ ap (λ b. cond b 0 1) not_zero in
    let clear : bits / 2 ^ i % 2 ≡ 0 = ap (λ n. n / 2 ^ i % 2) none ∙ bit_at-zero i in
    absurd (omega (arith, one, clear)))
    (cases_Bool (eqb (slice_index v i) 0))

pub none_set : (v : List ℕ) (bits : ℕ) → bits < 2 ^ 16 → ((i : ℕ) → i < 16 → ◌≡◌ {A = ℕ} (bits / 2 ^ i % 2) (cond (eqb (slice_index v i) 0) 0 1))
    → ((i : ℕ) → i < 16 → slice_index v i ≡ 0) → bits ≡ 0
none_set v bits few set zeros = ⊎_elim
    (λ (none : bits < 1). omega arith)
    (λ (some : 1 ≤ bits).
    let first = bit_at-trailing_zeros w16 bits some few in
    let place = trailing_zeros w16 bits in
    let zero = set place first.0 ∙ ap (λ x. cond (eqb x 0) 0 1) (zeros place first.0) in
    absurd (omega (arith, first.1, zero)))
    (cases_lt bits 1)

-- the positions of the lanes of two interleaved vectors
abbrev pub sixteen : List ℕ
sixteen = range_with_len 0 16

abbrev pub both : List ℕ
both = 0 ∷ 16 ∷ 1 ∷ 17 ∷ 2 ∷ 18 ∷ 3 ∷ 19 ∷ 4 ∷ 20 ∷ 5 ∷ 21 ∷ 6 ∷ 22 ∷ 7 ∷ 23 ∷ 8 ∷ 24 ∷ 9 ∷ 25 ∷ 10 ∷ 26 ∷ 11 ∷ 27 ∷ 12 ∷ 28 ∷ 13 ∷ 29 ∷ 14 ∷ 30 ∷ 15 ∷ 31 ∷ []

abbrev Holds : List ℕ → List ℕ → Bool → Type 0
Holds highs lows big = pick_l 0 (cond big (highs ++ lows) (lows ++ highs)) both ≡ pairs_of big highs lows

pub interleaved : (highs lows : List ℕ) → length highs ≡ 16 → length lows ≡ 16 → (big : Bool) → pick_l 0 (cond big (highs ++ lows) (lows ++ highs)) both ≡ pairs_of big highs lows
interleaved highs lows a b big = subst (λ xs. Holds xs lows big) (pick_l_whole 0 highs 16 a) (subst (λ ys. Holds (pick_l 0 highs sixteen) ys big) (pick_l_whole 0 lows 16 b) (computed big))
  where
    computed : (big : Bool) → Holds (pick_l 0 highs sixteen) (pick_l 0 lows sixteen) big
    computed true = refl
    computed false = refl

-- a choice by the comparison of the lanes of two vectors
pub lanes_of_choice : (n : ℕ) (w : Width) (t : ℕ → ℕ → Bool) (x y a b : List ℕ) → length x ≡ n → length y ≡ n → length a ≡ n → length b ≡ n
    → HasLanes n (sel_l (map (top (hbits w)) (zip2 (λ p q. cond (t p q) (2 ^ bits w - 1) 0) x y)) a b) (λ i. cond (t (slice_index x i) (slice_index y i)) (slice_index a i) (slice_index b i))
lanes_of_choice n w t x y a b px py pa pb =
    let tests = zip2 t x y in
    let long : length tests ≡ n = length-zip2 t x y (px ∙ sym py) ∙ px in
    let is = ap (λ flags. sel_l flags a b) (tops_compared w t x y) in
    record {
      len = ap length is ∙ length-sel_l tests a b (omega arith) (omega arith) ∙ long;
      lanes = λ i h. ap (λ l. get_or l i 0) is ∙ get_or-sel_l tests a b i 0 (omega arith) (omega arith) (omega arith)
          ∙ ap (λ flag. cond flag (slice_index a i) (slice_index b i)) (get_or-zip2 t x y i 0 0 false (omega (arith, px)) (omega (arith, py)));
    }

-- both lanes are below what the greater one is below
pub greater-below : (x y m limit : ℕ) → m ≡ cond (ltb x y) y x → m < limit → (x < limit) × (y < limit)
greater-below x y m limit is below = go (ltb x y) refl
  where
    go : (b : Bool) → ltb x y ≡ b → (x < limit) × (y < limit)
    go true e = let is' = is ∙ ap (λ b. cond b y x) e in (omega (arith, is', below, ltb-true x y e), omega (arith, is', below))
    go false e = let is' = is ∙ ap (λ b. cond b y x) e in (omega (arith, is', below), omega (arith, is', below, ltb-false x y e))

pub greatest-below : (limit : ℕ) (a b m : List ℕ) → HasLanes 16 m (λ i. cond (ltb (slice_index a i) (slice_index b i)) (slice_index b i) (slice_index a i))
    → ((i : ℕ) → i < 16 → slice_index m i < limit) → ((i : ℕ) → i < 16 → slice_index a i < limit) × ((i : ℕ) → i < 16 → slice_index b i < limit)
greatest-below limit a b m lanes below = (
  λ i h. (greater-below (slice_index a i) (slice_index b i) _ limit (lanes.lanes i h) (below i h)).0,
  λ i h. (greater-below (slice_index a i) (slice_index b i) _ limit (lanes.lanes i h) (below i h)).1,
)

-- zero was chosen, and not 255
pub chosen-zero : (x limit none ones : ℕ) → none ≡ 0 → ones ≡ 0xFF → cond (ltb x limit) none ones ≡ 0 → x < limit
chosen-zero x limit none ones is all e = go (ltb x limit) refl
  where
    go : (b : Bool) → ltb x limit ≡ b → x < limit
    go true t = ltb-true x limit t
    go false t = absurd (omega (arith, sym (ap (λ b. cond b none ones) t) ∙ e, all))
