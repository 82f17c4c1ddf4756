-- Limits of lanes that are within them already.
use Rattle.std.proofs.Common.{◌≡◌, ℕ, All, ◌-◌, ◌<◌, ◌^◌, ◌≤◌, ◌⊎◌, ⊎_elim, slice_index, bit_and, bit_or, Bool, cond, List, [], ◌∷◌, length, map, replicate, refl, sym, ap, ap₂, ◌∙◌, subst, arith, Fits, w8, w16, le-ltb, lt-ltb}
use Rattle.std.proofs.lemmas.Int.{to_z_pos}
use Rattle.std.proofs.lemmas.List.Elements.{All-cons, All-from_get_or, All-get_or, All-head, All-nil, All-tail}
use Rattle.std.proofs.lemmas.Nat.{le_or_l, le_or_r}
use Rattle.std.proofs.lemmas.Nat.Bits.{and_high}
use Rattle.std.proofs.lemmas.Simd.{Each1-get_or, tops_compared}
use lib.Dec.{T}
use lib.IntN.{nat_abs, pos}
use lib.Lanes.{Each1, fold_l, sel_l, top, zip2}
use lib.Signed.{lt_z, non_neg}
use mir.Val.{to_z}
use Rattle.utf16_to_utf8.proofs.ListLemmas.{same_lanes}

abbrev IsAscii : ℕ → Type 0
IsAscii lane = lane < 0x80

abbrev pub is_less : ℕ → ℕ → Bool
is_less a b = lt_z (to_z w16 a) (to_z w16 b)

number : (lane : ℕ) → IsAscii lane → to_z w16 lane ≡ pos lane
number lane ascii = to_z_pos w16 lane (omega (arith, ascii))

pub not-less : (lanes : List ℕ) → All IsAscii lanes → sel_l (zip2 is_less lanes (replicate (length lanes) 0)) (replicate (length lanes) 0) lanes ≡ lanes
not-less [] ascii = refl
not-less (lane ∷ lanes) ascii =
    ap₂ (λ x xs. x ∷ xs) (ap (λ z. cond (lt_z z (pos 0)) 0 lane) (number lane (All-head IsAscii lane lanes ascii)) ∙ ap (λ b. cond b 0 lane) (le-ltb lane 0 (omega arith))) (not-less lanes (All-tail IsAscii lane lanes ascii))

pub less : (lanes : List ℕ) → All IsAscii lanes → sel_l (zip2 is_less lanes (replicate (length lanes) 0xFF)) lanes (replicate (length lanes) 0xFF) ≡ lanes
less [] ascii = refl
less (lane ∷ lanes) ascii =
    let here = All-head IsAscii lane lanes ascii in
    ap₂ (λ x xs. x ∷ xs)
    (ap (λ z. cond (lt_z z (pos 0xFF)) lane 0xFF) (number lane here) ∙ ap (λ b. cond b lane 0xFF) (lt-ltb lane 0xFF (omega (arith, here))))
    (less lanes (All-tail IsAscii lane lanes ascii))

pub lane-bytes : (lanes : List ℕ) → All IsAscii lanes → map (λ (lane : ℕ). nat_abs (to_z w16 lane)) lanes ≡ lanes
lane-bytes [] ascii = refl
lane-bytes (lane ∷ lanes) ascii =
    ap₂ (λ x xs. x ∷ xs) (ap nat_abs (number lane (All-head IsAscii lane lanes ascii))) (lane-bytes lanes (All-tail IsAscii lane lanes ascii))

pub lane-fit : (lanes : List ℕ) → All IsAscii lanes → Each1 (λ (lane : ℕ). T (non_neg (to_z w16 lane)) × Fits w8 (nat_abs (to_z w16 lane))) lanes
lane-fit [] ascii = tt
lane-fit (lane ∷ lanes) ascii =
    let here = All-head IsAscii lane lanes ascii in (
      subst (λ z. T (non_neg z) × Fits w8 (nat_abs z)) (sym (number lane here)) (tt, record { fits = omega (arith, here) }),
      lane-fit lanes (All-tail IsAscii lane lanes ascii),
    )

-- the greater of each lane and 0, and the lesser of that and 0xFF
abbrev pub limited : ℕ → List ℕ → List ℕ
limited n lanes =
    let less = λ (a b : ℕ). cond (is_less a b) (2 ^ 16 - 1) 0 in
    let least = sel_l (map (top 15) (zip2 less lanes (replicate n 0))) (replicate n 0) lanes in
    sel_l (map (top 15) (zip2 less least (replicate n 0xFF))) least (replicate n 0xFF)

-- lanes of ASCII are within the limits
pub kept : (n : ℕ) (lanes : List ℕ) → length lanes ≡ n → All IsAscii lanes → limited n (map (λ (m : ℕ). m) lanes) ≡ lanes
kept n lanes long ascii =
    let low : sel_l (map (top 15) (zip2 (λ (a b : ℕ). cond (is_less a b) (2 ^ 16 - 1) 0) lanes (replicate n 0))) (replicate n 0) lanes ≡ lanes =
    ap (λ ms. sel_l ms (replicate n 0) lanes) (tops_compared w16 is_less lanes (replicate n 0))
    ∙ subst (λ k. sel_l (zip2 is_less lanes (replicate k 0)) (replicate k 0) lanes ≡ lanes) long (not-less lanes ascii) in
    ap (limited n) (same_lanes lanes)
    ∙ ap (λ ls. sel_l (map (top 15) (zip2 (λ (a b : ℕ). cond (is_less a b) (2 ^ 16 - 1) 0) ls (replicate n 0xFF))) ls (replicate n 0xFF)) low
    ∙ ap (λ ms. sel_l ms lanes (replicate n 0xFF)) (tops_compared w16 is_less lanes (replicate n 0xFF))
    ∙ subst (λ k. sel_l (zip2 is_less lanes (replicate k 0xFF)) lanes (replicate k 0xFF) ≡ lanes) long (less lanes ascii)

or-at-least : (lanes : List ℕ) (a : ℕ) → a ≤ fold_l bit_or a lanes
or-at-least [] a = omega arith
or-at-least (lane ∷ lanes) a = omega (arith, or-at-least lanes (bit_or a lane), le_or_l a lane)

-- if no bit is left of lanes that were masked and joined, no lane has one of the mask
pub none-left : (bits : ℕ) (lanes : List ℕ) (a : ℕ) → fold_l bit_or a (zip2 bit_and lanes (replicate (length lanes) bits)) ≡ 0 → All (λ lane. bit_and lane bits ≡ 0) lanes
none-left bits [] a none = All-nil (λ lane. bit_and lane bits ≡ 0)
none-left bits (lane ∷ lanes) a none =
    let joined = bit_or a (bit_and lane bits) in
    let here : bit_and lane bits ≡ 0 =
    omega (arith, none, or-at-least (zip2 bit_and lanes (replicate (length lanes) bits)) joined, le_or_r a (bit_and lane bits)) in
    All-cons (λ u. bit_and u bits ≡ 0) lane lanes here (none-left bits lanes joined none)

-- lanes without one of the bits above are below a limit
pub none-above : (lanes : List ℕ) (limit : ℕ) → (limit ≡ 0x80) ⊎ (limit ≡ 0x800) → Each1 (Fits w16) lanes → All (λ lane. bit_and lane (0xFFFF - (limit - 1)) ≡ 0) lanes
    → All (λ lane. lane < limit) lanes
none-above lanes limit which fit none =
    All-from_get_or (λ lane. lane < limit) lanes 0 (λ i lt.
    let lane = slice_index lanes i in
    let fits = (Each1-get_or (Fits w16) lanes i 0 lt fit).fits in
    let is = All-get_or (λ u. bit_and u (0xFFFF - (limit - 1)) ≡ 0) lanes i 0 lt none in
    ⊎_elim
    (λ (ascii : limit ≡ 0x80). omega (arith, ascii, fits, and_high lane 9 7, subst (λ n. bit_and lane (0xFFFF - (n - 1)) ≡ 0) ascii is))
    (λ (letters : limit ≡ 0x800). omega (arith, letters, fits, and_high lane 5 11, subst (λ n. bit_and lane (0xFFFF - (n - 1)) ≡ 0) letters is))
    which)
