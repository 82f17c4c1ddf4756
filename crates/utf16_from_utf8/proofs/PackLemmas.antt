-- Pairs compacted by a table of positions.
use Rattle.std.proofs.Common.{append-nil, append_assoc, length-append, length-drop, length-take-le, take-append-drop, take_all, ◌≡◌, ℕ, zero, suc, ◌+◌, ◌-◌, ◌*◌, ◌/◌, ◌%◌, ◌^◌, ◌<◌, ◌≤◌, ◌==◌, ◌&&◌, Bool, true, false, cond, eqb, eqb-true, leb, List, [], ◌∷◌, ◌++◌, count_ones, map, length, take, drop, get_or, refl, sym, ap, ap₂, ◌∙◌, subst, arith, w8}
use Rattle.std.proofs.lemmas.Bool.{and_parts, false_from_ne_true, leb-true}
use Rattle.std.proofs.lemmas.List.{map-append, take-take}
use Rattle.std.proofs.lemmas.Nat.{ones-le}
use Rattle.std.proofs.lemmas.Slice.Eq.{bytes_eq-Decides}
use Rattle.std.specs.Str.{bytes_eq}
use Rattle.std.proofs.Math.Nat.{two-pow-succ}
use Rattle.std.proofs.Math.Seq.{take-append-add}
use Rattle.std.proofs.lemmas.Simd.{SwzOk, SwzOk-from_below, pick_l-range_with_len, pick_l_whole, swz_l, take_more_put_chunk}
use Rattle.std.specs.List.{range_with_len, take-map}
use lib.Count.{ones}
use lib.Lanes.{Each1, all_below, pick_l, put_chunk}
use mir.Val.{zeroes}
use Rattle.utf16_units.proofs.LanesByIndex.{all_below-each}
use Rattle.utf16_from_utf8.specs.Lanes.{Packs, kept_pairs}
use Rattle.utf16_from_utf8.specs.declared.positions.TheConstants.{KEPT}

-- ---- the table, row by row

-- whether a row is the row of these bits
abbrev is_row : ℕ → List ℕ → Bool
is_row bits row = bytes_eq (take (2 * count_ones bits) row) (kept_pairs bits (range_with_len 0 16)) && (eqb (length row) 16 && all_below 16 row)

-- whether rows are the rows of the numbers from `bits` on
abbrev are_rows : ℕ → List (List ℕ) → Bool
are_rows bits [] = true
are_rows bits (row ∷ rows) = is_row bits row && are_rows (bits + 1) rows

each-row : (bits : ℕ) (rows : List (List ℕ)) (i : ℕ) → are_rows bits rows ≡ true → i < length rows → is_row (bits + i) (get_or rows i []) ≡ true
each-row bits [] i all below = absurd (omega arith)
each-row bits (row ∷ rows) zero all below =
    let here : bits ≡ bits + 0 = omega arith in
    subst (λ n. is_row n row ≡ true) here (and_parts (is_row bits row) (are_rows (bits + 1) rows) all).0
each-row bits (row ∷ rows) (suc i) all below =
    let next : bits + 1 + i ≡ bits + suc i = omega arith in
    subst (λ n. is_row n (get_or rows i []) ≡ true) next (each-row (bits + 1) rows i (and_parts (is_row bits row) (are_rows (bits + 1) rows) all).1 (omega arith))

table : are_rows 0 KEPT ≡ true
unfolding ones
table = refl

pub rows : (bits : ℕ) → bits < 256 → Packs bits (get_or KEPT bits [])
rows bits below =
    let row = get_or KEPT bits [] in
    let here : 0 + bits ≡ bits = omega arith in
    let is = and_parts (bytes_eq (take (2 * count_ones bits) row) (kept_pairs bits (range_with_len 0 16))) (eqb (length row) 16 && all_below 16 row) (subst (λ n. is_row n row ≡ true) here (each-row 0 KEPT bits table below)) in
    let rest = and_parts (eqb (length row) 16) (all_below 16 row) is.1 in
    record { kept = (bytes_eq-Decides _ _).0 is.0; len = eqb-true _ _ rest.0; few = ones-le 8 bits below; below = rest.1 }

-- ---- positions in a vector

not_zeroed : (k : ℕ) → k < 16 → zeroes 16 w8 k ≡ false
not_zeroed k below = false_from_ne_true (leb 128 k) (λ e. let big = leb-true 128 k e in omega arith)

pub swz_l-pick : (xs : List ℕ) (i : ℕ) (ks : List ℕ) → i + length ks ≤ 16 → Each1 (λ k. k < 16) ks → swz_l w8 16 xs i ks ≡ pick_l 0 xs ks
swz_l-pick xs i [] room each = refl
swz_l-pick xs i (k ∷ ks) room each =
    let place : 16 * (i / 16) + k ≡ k = omega arith in
    ap₂ (λ x t. x ∷ t) (ap (λ z. cond z 0 (get_or xs (16 * (i / 16) + k) 0)) (not_zeroed k each.0) ∙ ap (λ m. get_or xs m 0) place)
    (swz_l-pick xs (suc i) ks (omega arith) each.1)

kept_pairs-map : (f : ℕ → ℕ) (bits : ℕ) (pairs : List ℕ) → kept_pairs bits (map f pairs) ≡ map f (kept_pairs bits pairs)
kept_pairs-map f bits [] = refl
kept_pairs-map f bits (x ∷ []) = refl
kept_pairs-map f bits (x ∷ y ∷ pairs) =
    ap₂ (λ p q. p ++ q) (choice (bits % 2 == 1)) (kept_pairs-map f (bits / 2) pairs)
    ∙ sym (map-append f (cond (bits % 2 == 1) (x ∷ y ∷ []) []) (kept_pairs (bits / 2) pairs))
  where
    choice : (b : Bool) → cond b (f x ∷ f y ∷ []) [] ≡ map f (cond b (x ∷ y ∷ []) [])
    choice true = refl
    choice false = refl

-- a vector's eight pairs, compacted
pub packed : (pairs positions : List ℕ) (bits : ℕ) → length pairs ≡ 16 → Packs bits positions
    → take (2 * count_ones bits) (swz_l w8 16 pairs 0 positions) ≡ kept_pairs bits pairs
packed pairs positions bits long is =
    ap (take (2 * count_ones bits)) (swz_l-pick pairs 0 positions (omega (arith, is.len)) (all_below-each 16 positions is.below))
    ∙ take-map (λ k. get_or pairs k 0) (2 * count_ones bits) positions
    ∙ ap (pick_l 0 pairs) is.kept
    ∙ sym (kept_pairs-map (λ k. get_or pairs k 0) bits (range_with_len 0 16))
    ∙ ap (kept_pairs bits) (pick_l-range_with_len 0 pairs 0 16 (omega (arith, long)) ∙ take_all 16 pairs (omega (arith, long)))

pub positions-fit : (bits : ℕ) (positions : List ℕ) → Packs bits positions → SwzOk w8 16 16 0 positions
positions-fit bits positions is = SwzOk-from_below w8 16 1 16 0 positions refl (omega (arith, is.len)) (all_below-each 16 positions is.below)

-- the first n bytes of a stored vector, after the bytes before it
pub stored_front : (at n : ℕ) (out v : List ℕ) → n ≤ length v → at + length v ≤ length out → take (at + n) (put_chunk at out v) ≡ take at out ++ take n v
stored_front at n out v few room =
    sym (take-take (at + n) (at + length v) (put_chunk at out v) (omega arith))
    ∙ ap (take (at + n)) (take_more_put_chunk at out v (at + length v) refl room)
    ∙ subst (λ m. take (m + n) (take at out ++ v) ≡ take at out ++ take n v) (length-take-le at out (omega arith)) (take-append-add (take at out) v n)

-- ---- sixteen pairs, eight by eight

assoc_four : (p q r s t : List ℕ) → (p ++ (q ++ (r ++ (s ++ [])))) ++ t ≡ p ++ (q ++ (r ++ (s ++ t)))
assoc_four p q r s t =
    append_assoc p (q ++ (r ++ (s ++ []))) t
    ∙ ap (λ l. p ++ l) (append_assoc q (r ++ (s ++ [])) t ∙ ap (λ l. q ++ l) (append_assoc r (s ++ []) t ∙ ap (λ l. r ++ l) (append_assoc s [] t)))

-- the first four, and those after them
kept_pairs-four : (bits : ℕ) (four more : List ℕ) → length four ≡ 8 → kept_pairs bits (four ++ more) ≡ kept_pairs (bits % 16) four ++ kept_pairs (bits / 16) more
kept_pairs-four bits four more long = subst (λ xs. kept_pairs bits (xs ++ more) ≡ kept_pairs (bits % 16) xs ++ kept_pairs (bits / 16) more) (pick_l_whole 0 four 8 long)
    (let pair = λ (bit i : ℕ). cond (bit == 1) (get_or four (2 * i) 0 ∷ get_or four (2 * i + 1) 0 ∷ []) [] in
    let first : bits % 2 ≡ bits % 16 % 2 = omega arith in
    let second : bits / 2 % 2 ≡ bits % 16 / 2 % 2 = omega arith in
    let third : bits / 2 / 2 % 2 ≡ bits % 16 / 2 / 2 % 2 = omega arith in
    let fourth : bits / 2 / 2 / 2 % 2 ≡ bits % 16 / 2 / 2 / 2 % 2 = omega arith in
    let others : bits / 2 / 2 / 2 / 2 ≡ bits / 16 = omega arith in
    ap₂ (λ a b. pair a 0 ++ (pair b 1 ++ (pair (bits / 2 / 2 % 2) 2 ++ (pair (bits / 2 / 2 / 2 % 2) 3 ++ kept_pairs (bits / 2 / 2 / 2 / 2) more)))) first second
    ∙ ap₂ (λ a b. pair (bits % 16 % 2) 0 ++ (pair (bits % 16 / 2 % 2) 1 ++ (pair a 2 ++ (pair b 3 ++ kept_pairs (bits / 2 / 2 / 2 / 2) more)))) third fourth
    ∙ ap (λ a. pair (bits % 16 % 2) 0 ++ (pair (bits % 16 / 2 % 2) 1 ++ (pair (bits % 16 / 2 / 2 % 2) 2 ++ (pair (bits % 16 / 2 / 2 / 2 % 2) 3 ++ kept_pairs a more)))) others
    ∙ sym (assoc_four (pair (bits % 16 % 2) 0) (pair (bits % 16 / 2 % 2) 1) (pair (bits % 16 / 2 / 2 % 2) 2) (pair (bits % 16 / 2 / 2 / 2 % 2) 3) (kept_pairs (bits / 16) more)))

-- the first eight, and those after them
pub kept_pairs-eight : (bits : ℕ) (eight more : List ℕ) → length eight ≡ 16 → kept_pairs bits (eight ++ more) ≡ kept_pairs (bits % 256) eight ++ kept_pairs (bits / 256) more
kept_pairs-eight bits eight more long =
    let front = take 8 eight in
    let back = drop 8 eight in
    let four : length front ≡ 8 = length-take-le 8 eight (omega (arith, long)) in
    let four' : length back ≡ 8 = omega (arith, length-drop 8 eight, long) in
    let whole : front ++ back ≡ eight = take-append-drop 8 eight in
    let low : bits % 256 % 16 ≡ bits % 16 = omega arith in
    let high : bits % 256 / 16 ≡ bits / 16 % 16 = omega arith in
    let rest : bits / 16 / 16 ≡ bits / 256 = omega arith in
    let one = kept_pairs (bits % 16) front in
    let two = kept_pairs (bits / 16 % 16) back in
    let small : kept_pairs (bits % 256) eight ≡ one ++ two =
    ap (kept_pairs (bits % 256)) (sym whole) ∙ kept_pairs-four (bits % 256) front back four ∙ ap₂ (λ m n. kept_pairs m front ++ kept_pairs n back) low high in
    ap (λ bytes. kept_pairs bits (bytes ++ more)) (sym whole) ∙ ap (kept_pairs bits) (append_assoc front back more)
    ∙ kept_pairs-four bits front (back ++ more) four
    ∙ ap (λ bytes. one ++ bytes) (kept_pairs-four (bits / 16) back more four' ∙ ap (λ n. two ++ kept_pairs n more) rest)
    ∙ sym (append_assoc one two (kept_pairs (bits / 256) more))
    ∙ ap (λ bytes. bytes ++ kept_pairs (bits / 256) more) (sym small)

-- what two stores leave, one after the other
pub kept_pairs-all : (bits : ℕ) (first second start middle all : List ℕ) → length first ≡ 16
    → middle ≡ start ++ kept_pairs (bits % 256) first → all ≡ middle ++ kept_pairs (bits / 256) second → all ≡ start ++ kept_pairs bits (first ++ second)
kept_pairs-all bits first second start middle all long e f =
    let one = kept_pairs (bits % 256) first in
    let two = kept_pairs (bits / 256) second in
    f ∙ ap (λ bytes. bytes ++ two) e ∙ append_assoc start one two ∙ ap (λ bytes. start ++ bytes) (sym (kept_pairs-eight bits first second long))

-- ---- the pairs after the first ones

even : (q d : ℕ) → q * 2 ^ suc d ≡ q * 2 ^ d * 2
even q d = ap (λ n. q * n) (two-pow-succ d) ∙ omega arith

-- the pairs whose bits are cleared are left out
kept-next : (d q x y : ℕ) (pairs : List ℕ) → kept_pairs (q * 2 ^ suc d) (x ∷ y ∷ pairs) ≡ kept_pairs (q * 2 ^ d) pairs
kept-next d q x y pairs =
    let half : q * 2 ^ d * 2 / 2 ≡ q * 2 ^ d = omega arith in
    let none : q * 2 ^ d * 2 % 2 ≡ 0 = omega arith in
    ap (λ n. kept_pairs n (x ∷ y ∷ pairs)) (even q d) ∙ ap₂ (λ (b n : ℕ). cond (b == 1) (x ∷ y ∷ []) [] ++ kept_pairs n pairs) none half

pub kept-skip : (d q : ℕ) (pairs : List ℕ) → 2 * d ≤ length pairs → kept_pairs (q * 2 ^ d) pairs ≡ kept_pairs q (drop (2 * d) pairs)
kept-skip zero q pairs room = ap (λ n. kept_pairs n pairs) (omega arith)
kept-skip (suc d) q [] room = absurd (omega arith)
kept-skip (suc d) q (x ∷ []) room = absurd (omega arith)
kept-skip (suc d) q (x ∷ y ∷ pairs) room =
    let next : suc (suc (2 * d)) ≡ 2 * suc d = omega arith in
    kept-next d q x y pairs ∙ kept-skip d q pairs (omega arith) ∙ ap (λ n. kept_pairs q (drop n (x ∷ y ∷ pairs))) next

kept-short : (bits : ℕ) (pairs : List ℕ) → length (kept_pairs bits pairs) ≤ length pairs
kept-short bits [] = omega arith
kept-short bits (x ∷ []) = omega arith
kept-short bits (x ∷ y ∷ pairs) =
    omega (arith, length-append (cond (bits % 2 == 1) (x ∷ y ∷ []) []) (kept_pairs (bits / 2) pairs), either (bits % 2 == 1), kept-short (bits / 2) pairs)
  where
    either : (b : Bool) → length (cond b (x ∷ y ∷ []) []) ≤ 2
    either true = omega arith
    either false = omega arith

pub kept-after : (d q : ℕ) (pairs : List ℕ) → length (kept_pairs (q * 2 ^ d) pairs) ≤ length pairs - 2 * d
kept-after zero q pairs = omega (arith, kept-short (q * 2 ^ 0) pairs)
kept-after (suc d) q [] = omega arith
kept-after (suc d) q (x ∷ []) = omega arith
kept-after (suc d) q (x ∷ y ∷ pairs) = omega (arith, ap length (kept-next d q x y pairs), kept-after d q pairs)

pub kept-after-eight : (d q : ℕ) (eight : List ℕ) → length eight ≡ 16 → length (kept_pairs (q * 2 ^ d % 256) eight) ≤ 2 * (8 - d)
kept-after-eight d q eight long =
    let bits = q * 2 ^ d in
    let all = ap (kept_pairs bits) (sym (append-nil eight)) ∙ kept_pairs-eight bits eight [] long ∙ append-nil (kept_pairs (bits % 256) eight) in
    omega (arith, ap length all, kept-after d q eight, long)
