-- Bytes moved to the front of a vector, and zeros after them.
use Rattle.std.proofs.Common.{◌≡◌, ℕ, zero, suc, ◌+◌, ◌-◌, ◌<◌, ◌≤◌, ◌&&◌, ◌||◌, Bool, true, ltb, List, [], ◌∷◌, ◌++◌, length, get_or, take, drop, replicate, refl, sym, ap, ap₂, ◌∙◌, subst, ⊎_elim, arith, w8, take_all, append_assoc, drop-drop, length-append, length-drop, length-take-le, take-append-drop}
use Rattle.std.proofs.lemmas.Bool.{and_parts, cases_lt}
use Rattle.std.proofs.lemmas.List.{drop-append-le, drop_all, length-replicate, take-append-le, take-replicate}
use Rattle.std.proofs.Math.Seq.{drop-append-add, take-append-add}
use Rattle.std.proofs.lemmas.List.FromFn.{get_or-range_with_len, length-range_with_len}
use Rattle.std.proofs.lemmas.Simd.{Each1-from_get_or, pick_l-range_with_len, swz_l}
use Rattle.std.proofs.lemmas.Slice.Eq.{bytes_eq-Decides}
use Rattle.std.specs.List.{range_with_len}
use Rattle.std.specs.Str.{bytes_eq}
use lib.Dec.{T}
use lib.Lanes.{Each1, pick_l}
use mir.Val.{zeroes}
use Rattle.utf16_to_utf8.specs.declared.padded.TheConstants.{LAST_PLACES}
use Rattle.utf16_to_utf8.proofs.StoreLemmas.{swz-picked}

-- ---- the table, row by row

abbrev pub moved : ℕ → List ℕ
moved len = range_with_len (16 - len) len ++ replicate (16 - len) 128

pub moved-long : (len : ℕ) → len ≤ 16 → length (moved len) ≡ 16
moved-long len few =
    let k = 16 - len in
    omega (arith, few, length-append (range_with_len k len) (replicate k 128), length-range_with_len k len, length-replicate {A = ℕ} k 128)

-- a test of all numbers below n
abbrev all_upto : ℕ → (ℕ → Bool) → Bool
all_upto zero test = true
all_upto (suc n) test = test n && all_upto n test

all_upto-each : (n : ℕ) (test : ℕ → Bool) → all_upto n test ≡ true → (k : ℕ) → k < n → test k ≡ true
all_upto-each zero test all k lt = absurd (omega arith)
all_upto-each (suc n) test all k lt =
    let parts = and_parts (test n) (all_upto n test) all in
    ⊎_elim (λ (a : k < n). all_upto-each n test parts.1 k a) (λ (b : n ≤ k). let e : n ≡ k = omega arith in subst (λ m. test m ≡ true) e parts.0) (cases_lt k n)

abbrev is_moved : ℕ → Bool
is_moved len = bytes_eq (get_or LAST_PLACES len []) (moved len)

pub moved_row : (len : ℕ) → len ≤ 16 → get_or LAST_PLACES len [] ≡ moved len
moved_row len few = (bytes_eq-Decides _ _).0 (all_upto-each 17 is_moved refl len (omega arith))

-- each place is one of sixteen, or gives a zero
abbrev all_stand : List ℕ → Bool
all_stand [] = true
all_stand (j ∷ js) = (zeroes 16 w8 j || ltb j 16) && all_stand js

all_stand-each : (js : List ℕ) → all_stand js ≡ true → Each1 (λ j. T (zeroes 16 w8 j || ltb j 16)) js
all_stand-each [] all = tt
all_stand-each (j ∷ js) all =
    let parts = and_parts (zeroes 16 w8 j || ltb j 16) (all_stand js) all in
    (subst T (sym parts.0) tt, all_stand-each js parts.1)

pub moved-stand : (len : ℕ) → len ≤ 16 → Each1 (λ j. T (zeroes 16 w8 j || ltb j 16)) (moved len)
moved-stand len few = all_stand-each (moved len) (all_upto-each 17 (λ n. all_stand (moved n)) refl len (omega arith))

-- ---- the bytes

swz-append : (bytes : List ℕ) (i : ℕ) (js ks : List ℕ) → swz_l w8 16 bytes i (js ++ ks) ≡ swz_l w8 16 bytes i js ++ swz_l w8 16 bytes (i + length js) ks
swz-append bytes i [] ks = let here : i ≡ i + 0 = omega arith in ap (λ m. swz_l w8 16 bytes m ks) here
swz-append bytes i (j ∷ js) ks =
    let next : suc i + length js ≡ i + suc (length js) = omega arith in
    ap (λ t. swz_l w8 16 bytes i (j ∷ []) ++ t) (swz-append bytes (suc i) js ks ∙ ap (λ m. swz_l w8 16 bytes (suc i) js ++ swz_l w8 16 bytes m ks) next)

swz-zeros : (bytes : List ℕ) (i n : ℕ) → swz_l w8 16 bytes i (replicate n 128) ≡ replicate n 0
swz-zeros bytes i zero = refl
swz-zeros bytes i (suc n) = ap (λ t. 0 ∷ t) (swz-zeros bytes (suc i) n)

pub swz-moved : (bytes : List ℕ) (len : ℕ) → length bytes ≡ 16 → len ≤ 16 → swz_l w8 16 bytes 0 (moved len) ≡ drop (16 - len) bytes ++ replicate (16 - len) 0
swz-moved bytes len long few =
    let k = 16 - len in
    let places = range_with_len k len in
    let places_long = length-range_with_len k len in
    let below : Each1 (λ place. place < 16) places = Each1-from_get_or (λ place. place < 16) places 0 (λ i lt. subst (λ p. p < 16) (sym (get_or-range_with_len k len i 0 (omega (arith, lt, places_long)))) (omega (arith, lt, places_long, few))) in
    swz-append bytes 0 places (replicate k 128)
    ∙ ap₂ (λ xs ys. xs ++ ys)
    (swz-picked bytes 0 places (omega (arith, places_long, few)) below ∙ pick_l-range_with_len 0 bytes k len (omega (arith, long, few)) ∙ take_all len (drop k bytes) (omega (arith, length-drop k bytes, long, few)))
    (swz-zeros bytes (0 + length places) k)

-- the front of a vector and what follows it
pub front-of : (front zeros : List ℕ) (len : ℕ) → length front ≡ len → (take len (front ++ zeros) ≡ front) × (drop len (front ++ zeros) ≡ zeros)
front-of front zeros len long = (
  take-append-le len front zeros (omega (arith, long)) ∙ take_all len front (omega (arith, long)),
  drop-append-le len front zeros (omega (arith, long)) ∙ ap (λ xs. xs ++ zeros) (drop_all len front (omega (arith, long))),
)

-- the first eight of two vectors of sixteen
pub first-eights : (both moved : List ℕ) → length both ≡ 16 → length moved ≡ 16
    → pick_l 0 (both ++ moved) (0 ∷ 1 ∷ 2 ∷ 3 ∷ 4 ∷ 5 ∷ 6 ∷ 7 ∷ 16 ∷ 17 ∷ 18 ∷ 19 ∷ 20 ∷ 21 ∷ 22 ∷ 23 ∷ []) ≡ take 8 both ++ take 8 moved
first-eights both moved long long' =
    let all = both ++ moved in
    let room = length-append both moved in
    ap₂ (λ xs ys. xs ++ ys) (pick_l-range_with_len 0 all 0 8 (omega (arith, room, long))) (pick_l-range_with_len 0 all 16 8 (omega (arith, room, long, long')))
    ∙ ap₂ (λ xs ys. xs ++ ys) (take-append-le 8 both moved (omega (arith, long))) (ap (take 8) (front-of both moved 16 long).1)

-- eight to sixteen bytes by their first eight and, moved to the front, their last
pub few-joined : (raw both moved : List ℕ) → 8 ≤ length raw → length raw ≤ 16 → both ≡ take 8 raw ++ take 8 (drop (length raw - 8) raw)
    → take (length raw - 8) moved ≡ drop (16 - (length raw - 8)) both → drop (length raw - 8) moved ≡ replicate (16 - (length raw - 8)) 0
    → take 8 both ++ take 8 moved ≡ raw ++ replicate (16 - length raw) 0
few-joined raw both moved some few is front zeros =
    let n = length raw in
    let m = n - 8 in
    let k = 16 - n in
    let first = take 8 raw in
    let last = drop m raw in
    let long : length first ≡ 8 = length-take-le 8 raw some in
    let whole = is ∙ ap (λ xs. first ++ xs) (take_all 8 last (omega (arith, length-drop m raw, some))) in
    let far : 16 - m ≡ length first + k = omega (arith, long, some, few) in
    let here : m + k ≡ 8 = omega (arith, some, few) in
    let rest = ap₂ drop far whole ∙ drop-append-add first last k ∙ drop-drop k m raw ∙ ap (λ i. drop i raw) here in
    let back = drop 8 raw in
    let behind : 8 ≡ length back + k = omega (arith, length-drop 8 raw, some, few) in
    let moved_is = sym (take-append-drop m moved) ∙ ap₂ (λ xs ys. xs ++ ys) (front ∙ rest) zeros in
    ap₂ (λ xs ys. xs ++ ys) (ap (take 8) is ∙ (front-of first (take 8 last) 8 long).0)
    (ap₂ take behind moved_is ∙ take-append-add back (replicate (16 - m) 0) k ∙ ap (λ zs. back ++ zs) (take-replicate k (16 - m) 0 (omega (arith, some, few))))
    ∙ sym (append_assoc first back (replicate k 0)) ∙ ap (λ xs. xs ++ replicate k 0) (take-append-drop 8 raw)
