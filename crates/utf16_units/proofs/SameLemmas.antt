-- Bytes compared by blocks and by units, after a common prefix.
use Rattle.std.proofs.Common.{◌≡◌, ◌≢◌, ℕ, zero, suc, ◌+◌, ◌*◌, ◌/◌, ◌%◌, ◌^◌, ◌<◌, ◌≤◌, ◌⊎◌, Bool, true, false, cond, not, eqb, List, [], ◌∷◌, ◌++◌, Ordering, Less, Equal, Greater, length, map, take, drop, slice_index, nat_cmp, refl, sym, ap, ap₂, ◌∙◌, subst, ⊎_elim, arith, length-drop, take-add}
use Rattle.std.proofs.lemmas.Bool.{cases_Bool, cases_lt, eqb-true}
use Rattle.std.proofs.lemmas.Bool.Decides.{nat_tests}
use Rattle.std.proofs.lemmas.Simd.{length-chunk, length-zip2, mask_l-mod, tops_compared}
use Rattle.std.specs.Cmp.{nat_cmp_is, nat_cmp_total, on_total, ranks}
use Rattle.std.specs.Ordering.{MatchOrdering, ordering_then}
use lib.Count.{count_trailing_zeros, trailing_le, under}
use lib.Lanes.{chunk, mask_l, top, zip2}
use mir.Syntax.{w8}
use Rattle.utf16_units.specs.Compared.{SameTo, differing, ranked_cmp, unit_rank, units_cmp}
use Rattle.utf16_units.specs.Encoding.{units_of}
use Rattle.utf16_units.specs.Unit.{unit_of}
use Rattle.utf16_units.proofs.TextOrderLemmas.{common_cmp}
use Rattle.utf16_units.proofs.UnitsUpTo.{units_of-one, units_of-short, units_of-split}

-- ---- the lanes of a block that differ

abbrev differ : ℕ → ℕ → Bool
differ a b = not (eqb a b)

not-false : (b : Bool) → not b ≡ false → b ≡ true
not-false true e = refl
not-false false e = sym e

-- the lowest set bit is bit 0, or else one above the lowest set bit of the other bits
lowest_of : (b : Bool) (m k : ℕ) → count_trailing_zeros (suc k) (cond b 1 0 + 2 * m) ≡ cond b 0 (suc (count_trailing_zeros k m))
unfolding count_trailing_zeros
lowest_of true m k = let odd : (1 + 2 * m) % 2 ≡ 1 = omega arith in ap (λ d. under d (count_trailing_zeros k ((1 + 2 * m) / 2))) odd
lowest_of false m k =
    let even : (0 + 2 * m) % 2 ≡ 0 = omega arith in
    let half : (0 + 2 * m) / 2 ≡ m = omega arith in
    ap₂ (λ d h. under d (count_trailing_zeros k h)) even half

-- lanes below the lowest bit that is set are the same
same_lanes : (k n : ℕ) (xs ys : List ℕ) → length xs ≡ length ys → n ≤ length xs → n ≤ count_trailing_zeros k (mask_l (zip2 differ xs ys)) → take n xs ≡ take n ys
same_lanes k zero xs ys long within below = refl
same_lanes k (suc n) [] ys long within below = absurd (omega arith)
same_lanes k (suc n) (x ∷ xs) [] long within below = absurd (omega arith)
same_lanes zero (suc n) (x ∷ xs) (y ∷ ys) long within below = absurd (omega (arith, trailing_le zero (mask_l (zip2 differ (x ∷ xs) (y ∷ ys)))))
same_lanes (suc k) (suc n) (x ∷ xs) (y ∷ ys) long within below =
    let rest = mask_l (zip2 differ xs ys) in
    let below_bit = λ (b : Bool) (is : differ x y ≡ b). subst (λ z. suc n ≤ z) (lowest_of (differ x y) rest k ∙ ap (λ c. cond c 0 (suc (count_trailing_zeros k rest))) is) below in
    ⊎_elim
    (λ (is : differ x y ≡ true). let none = below_bit true is in absurd (omega arith))
    (λ (is : differ x y ≡ false).
    let further = below_bit false is in
    ap₂ (λ z zs. z ∷ zs) (eqb-true x y (not-false (eqb x y) is)) (same_lanes k n xs ys (omega arith) (omega arith) (omega arith)))
    (cases_Bool (differ x y))

-- the prefix of a prefix
take_take : (n m : ℕ) (xs : List ℕ) → n ≤ m → take n (take m xs) ≡ take n xs
take_take zero m xs le = refl
take_take (suc n) zero xs le = absurd (omega arith)
take_take (suc n) (suc m) [] le = refl
take_take (suc n) (suc m) (x ∷ xs) le = ap (λ t. x ∷ t) (take_take n m xs (omega arith))

-- ---- blocks

module _ (bytes other : List ℕ) (at N : ℕ) (lanes : N ≤ 64) (room : at + N ≤ length bytes) (other_room : at + N ≤ length other) where
  pub differing-is : mask_l (map (top 7) (zip2 (λ (a b : ℕ). cond (differ a b) 255 0) (chunk at N bytes) (chunk at N other))) % 2 ^ 64 ≡ differing at N bytes other
  differing-is =
      let xs = chunk at N bytes in
      let ys = chunk at N other in
      let one = length-chunk at N bytes room in
      let two = length-chunk at N other other_room in
      ap (λ ms. mask_l ms % 2 ^ 64) (tops_compared w8 differ xs ys)
      ∙ mask_l-mod (zip2 differ xs ys) 64 (omega (arith, length-zip2 differ xs ys (one ∙ sym two)))

  module _ (s : SameTo bytes other at) where
    -- as many bytes of the block are the same as there are bits below its lowest set bit
    pub SameTo-block : (n : ℕ) → n % 2 ≡ 0 → n ≤ N → n ≤ count_trailing_zeros 64 (differing at N bytes other) → SameTo bytes other (at + n)
    SameTo-block n even le below =
        let one = length-chunk at N bytes room in
        let two = length-chunk at N other other_room in
        let whole = s.even in
        let lanes_same = same_lanes 64 n (chunk at N bytes) (chunk at N other) (one ∙ sym two) (omega arith) below in
        let same = sym (take_take n N (drop at bytes) le) ∙ lanes_same ∙ take_take n N (drop at other) le in
        record {
          within = omega arith;
          other_within = omega arith;
          even = omega arith;
          same = take-add at n bytes ∙ ap₂ (λ xs ys. xs ++ ys) s.same same ∙ sym (take-add at n other);
        }

    -- if no bit is set, the whole block is the same
    pub SameTo-whole : N % 2 ≡ 0 → differing at N bytes other ≡ 0 → SameTo bytes other (at + N)
    unfolding count_trailing_zeros
    SameTo-whole even none = SameTo-block N even (omega arith) (subst (λ m. N ≤ count_trailing_zeros 64 m) (sym none) lanes)

-- ---- units

rank_injective : (u v : ℕ) → u < 0x1_0000 → v < 0x1_0000 → unit_rank u ≡ unit_rank v → u ≡ v
rank_injective u v one two same = grind (arith, nat_tests)

-- units that differ decide by their ranks
ranks_decide : (u v : ℕ) (us vs : List ℕ) → u < 0x1_0000 → v < 0x1_0000 → u ≢ v → ranked_cmp (u ∷ us) (v ∷ vs) ≡ nat_cmp (unit_rank u) (unit_rank v)
ranks_decide u v us vs one two other = by_answer (nat_cmp (unit_rank u) (unit_rank v)) (ranks (unit_rank u) (unit_rank v)) where
  by_answer : (o : Ordering) → MatchOrdering o (unit_rank u < unit_rank v) (unit_rank u ≡ unit_rank v) (unit_rank v < unit_rank u) → ordering_then o (ranked_cmp us vs) ≡ o
  by_answer Less m = refl
  by_answer Equal m = absurd (other (rank_injective u v one two m))
  by_answer Greater m = refl

-- the unit at an offset, and those after it
units_from : (big : Bool) (bytes : List ℕ) (at : ℕ) → at + 2 ≤ length bytes
    → units_of big (drop at bytes) ≡ unit_of big (slice_index bytes at) (slice_index bytes (at + 1)) ∷ units_of big (drop 2 (drop at bytes))
units_from big bytes at room =
    units_of-split big (drop at bytes) 2 refl (omega (arith, length-drop at bytes))
    ∙ ap (λ us. us ++ units_of big (drop 2 (drop at bytes))) (units_of-one big bytes at room)

none_from : (big : Bool) (bytes : List ℕ) (at : ℕ) → length bytes < at + 2 → units_of big (drop at bytes) ≡ []
none_from big bytes at few = units_of-short big (drop at bytes) (omega (arith, length-drop at bytes))

module _ (big : Bool) (bytes other : List ℕ) (at : ℕ) (s : SameTo bytes other at) where
  -- the bytes from the offset on decide
  units_cmp-from : units_cmp big bytes other ≡ ranked_cmp (units_of big (drop at bytes)) (units_of big (drop at other))
  units_cmp-from =
      let front = units_of big (take at bytes) in
      ap₂ ranked_cmp (units_of-split big bytes at s.even s.within)
      (units_of-split big other at s.even s.other_within ∙ ap (λ t. units_of big t ++ units_of big (drop at other)) (sym s.same))
      ∙ common_cmp (on_total unit_rank nat_cmp_total) front (units_of big (drop at bytes)) (units_of big (drop at other))

  module _ (u v : ℕ) (u-is : u ≡ unit_of big (slice_index bytes at) (slice_index bytes (at + 1)))
      (v-is : v ≡ unit_of big (slice_index other at) (slice_index other (at + 1))) (room : at + 2 ≤ length bytes) (other_room : at + 2 ≤ length other) where
    pub decided_here : u < 0x1_0000 → v < 0x1_0000 → u ≢ v → nat_cmp (unit_rank u) (unit_rank v) ≡ units_cmp big bytes other
    decided_here one two apart =
        sym (units_cmp-from
        ∙ ap₂ ranked_cmp
        (units_from big bytes at room ∙ ap (λ w. w ∷ units_of big (drop 2 (drop at bytes))) (sym u-is))
        (units_from big other at other_room ∙ ap (λ w. w ∷ units_of big (drop 2 (drop at other))) (sym v-is))
        ∙ ranks_decide u v (units_of big (drop 2 (drop at bytes))) (units_of big (drop 2 (drop at other))) one two apart)

  -- if one has ended, the lengths decide
  pub decided_at_end : length bytes % 2 ≡ 0 → length other % 2 ≡ 0 → (length bytes < at + 2) ⊎ (length other < at + 2)
      → nat_cmp (length bytes) (length other) ≡ units_cmp big bytes other
  decided_at_end even other_even ended =
      let answer = λ (o : Ordering) (m : MatchOrdering o (length bytes < length other) (length bytes ≡ length other) (length other < length bytes)) (r : units_cmp big bytes other ≡ o).
      sym (nat_cmp_is (length bytes) (length other) o m) ∙ sym r in
      ⊎_elim
      (λ (first : length bytes < at + 2). ⊎_elim
      (λ (second : length other < at + 2). answer Equal (omega arith) (units_cmp-from ∙ ap₂ ranked_cmp (none_from big bytes at first) (none_from big other at second)))
      (λ (second : at + 2 ≤ length other). answer Less (omega arith) (units_cmp-from ∙ ap₂ ranked_cmp (none_from big bytes at first) (units_from big other at second)))
      (cases_lt (length other) (at + 2)))
      (λ (first : at + 2 ≤ length bytes). ⊎_elim
      (λ (second : length other < at + 2). answer Greater (omega arith) (units_cmp-from ∙ ap₂ ranked_cmp (units_from big bytes at first) (none_from big other at second)))
      (λ (second : at + 2 ≤ length other). absurd (⊎_elim (λ (e : length bytes < at + 2). omega arith) (λ (e : length other < at + 2). omega arith) ended))
      (cases_lt (length other) (at + 2)))
      (cases_lt (length bytes) (at + 2))
