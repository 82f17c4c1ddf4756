-- Characters of three bytes: their first, second and third bytes, what these add, and that they are
-- well formed.
use Rattle.std.proofs.Common.{◌≡◌, ℕ, suc, ◌+◌, ◌*◌, ◌/◌, ◌%◌, ◌^◌, ◌<◌, ◌≤◌, ◌⊎◌, ⊎_elim, Bool, List, [], ◌∷◌, ◌++◌, length, take, drop, slice_index, bit_and, sym, ap, ap₂, ◌∙◌, subst, arith, drop-drop}
use Rattle.std.proofs.Math.Seq.{take-add}
use Rattle.std.proofs.lemmas.Nat.Bits.{and_high}
use Rattle.std.proofs.lemmas.Simd.{pick_l_whole}
use Rattle.std.proofs.lemmas.Str.{IsUtf8-append, IsUtf8-encode, IsUtf8-nil}
use Rattle.std.specs.Char.{IsScalar}
use Rattle.std.specs.Str.{IsUtf8}
use lib.Lanes.{chunk, pick_l}
use lib.Utf8.{encode, low_scalar}
use Rattle.utf16_units.proofs.FirstChar.{high_scalar}
use Rattle.utf16_units.proofs.Utf8Lemmas.{three_bytes}
use Rattle.utf16_from_utf8.specs.Added.{added_bytes}
use Rattle.utf16_from_utf8.specs.Lanes.{pair_bytes, pairs_of}
use Rattle.utf16_from_utf8.specs.Threes.{IsThree, every_third, woven}
use Rattle.utf16_from_utf8.specs.UnitLanes.{short_low, three_high}
use Rattle.utf16_from_utf8.proofs.AddedLemmas.{added_bytes-nil}
use Rattle.utf16_from_utf8.proofs.BlockLemmas.{three-added}
use Rattle.utf16_from_utf8.proofs.LaneByteLemmas.{three-bytes}
use Rattle.utf16_from_utf8.proofs.LaneLemmas.{sixteen}

-- a plane of three vectors, by the picks that make it
abbrev Plane : ℕ → List ℕ → List ℕ → List ℕ → List ℕ → List ℕ → List ℕ → Type 0
Plane from others all order a b c =
    let rest = pick_l 0 (b ++ c) others in
    let plane = pick_l 0 (a ++ rest) all in
    pick_l 0 (plane ++ plane) order ≡ pick_l 0 (a ++ (b ++ c)) (every_third from 16)

-- it is enough to prove it for vectors that are written out
pub plane : (from : ℕ) (others all order a b c : List ℕ) → length a ≡ 16 → length b ≡ 16 → length c ≡ 16
    → ((x y z : List ℕ) → Plane from others all order (pick_l 0 x sixteen) (pick_l 0 y sixteen) (pick_l 0 z sixteen)) → Plane from others all order a b c
plane from others all order a b c p q r computed =
    subst (λ x. Plane from others all order x b c) (pick_l_whole 0 a 16 p)
    (subst (λ y. Plane from others all order (pick_l 0 a sixteen) y c) (pick_l_whole 0 b 16 q)
    (subst (λ z. Plane from others all order (pick_l 0 a sixteen) (pick_l 0 b sixteen) z) (pick_l_whole 0 c 16 r) (computed a b c)))

-- the planes of forty-eight bytes, woven
pub planes-woven : (v : List ℕ) → length v ≡ 48 → v ≡ woven (pick_l 0 v (every_third 0 16)) (pick_l 0 v (every_third 1 16)) (pick_l 0 v (every_third 2 16))
planes-woven v long = sym (pick_l_whole 0 v 48 long)

-- three chunks next to each other
pub three-chunks : (at : ℕ) (xs : List ℕ) → at + 48 ≤ length xs → take 48 (drop at xs) ≡ chunk at 16 xs ++ (chunk (at + 16) 16 xs ++ chunk (at + 32) 16 xs)
three-chunks at xs room =
    take-add 16 32 (drop at xs)
    ∙ ap (λ t. take 16 (drop at xs) ++ take 32 t) (drop-drop 16 at xs)
    ∙ ap (λ t. take 16 (drop at xs) ++ t) (take-add 16 16 (drop (at + 16) xs) ∙ ap (λ t. take 16 (drop (at + 16) xs) ++ take 16 t) (drop-drop 16 (at + 16) xs ∙ ap (λ n. drop n xs) (omega arith)))

-- the upper bits, if the sum is zero
pub first-by : (x m e s : ℕ) → m ≡ bit_and x 0xF0 → e ≡ 0x20 → s ≡ (m + e) % 2 ^ 8 → s < 1 → bit_and x 0xF0 ≡ 0xE0
first-by x m e s is twenty plus none = let high : bit_and x 0xF0 ≡ x / 16 % 16 * 16 = and_high x 4 4 in omega (arith, is, twenty, plus, none, high)

pub later-by : (x m e s : ℕ) → m ≡ bit_and x 0xC0 → e ≡ 0x80 → s ≡ (m + e) % 2 ^ 8 → s < 1 → bit_and x 0xC0 ≡ 0x80
later-by x m e s is eighty plus none = let high : bit_and x 0xC0 ≡ x / 64 % 4 * 64 = and_high x 2 6 in omega (arith, is, eighty, plus, none, high)

-- what they add
pub woven-added : (big : Bool) (b2 b1 : ℕ) (xs ys zs highs lows : List ℕ) → length ys ≡ length xs → length zs ≡ length xs → length highs ≡ length xs → length lows ≡ length xs
    → ((i : ℕ) → i < length xs → slice_index xs i < 256) → ((i : ℕ) → i < length xs → slice_index ys i < 256) → ((i : ℕ) → i < length xs → slice_index zs i < 256)
    → ((i : ℕ) → i < length xs → IsThree (slice_index xs i) (slice_index ys i) (slice_index zs i))
    → ((i : ℕ) → i < length xs → slice_index highs i ≡ three_high (slice_index xs i) (slice_index ys i))
    → ((i : ℕ) → i < length xs → slice_index lows i ≡ short_low (slice_index ys i) (slice_index zs i))
    → pairs_of big highs lows ≡ added_bytes big b2 b1 (woven xs ys zs)
woven-added big b2 b1 [] ys zs [] lows p q r s fx fy fz are hs ls = sym (added_bytes-nil big b2 b1)
woven-added big b2 b1 [] ys zs (h ∷ highs) lows p q r s fx fy fz are hs ls = absurd (omega (arith, r))
woven-added big b2 b1 (x ∷ xs) [] zs highs lows p q r s fx fy fz are hs ls = absurd (omega (arith, p))
woven-added big b2 b1 (x ∷ xs) (y ∷ ys) [] highs lows p q r s fx fy fz are hs ls = absurd (omega (arith, q))
woven-added big b2 b1 (x ∷ xs) (y ∷ ys) (z ∷ zs) [] lows p q r s fx fy fz are hs ls = absurd (omega (arith, r))
woven-added big b2 b1 (x ∷ xs) (y ∷ ys) (z ∷ zs) (h ∷ highs) [] p q r s fx fy fz are hs ls = absurd (omega (arith, s))
woven-added big b2 b1 (x ∷ xs) (y ∷ ys) (z ∷ zs) (h ∷ highs) (l ∷ lows) p q r s fx fy fz are hs ls =
    let is = are 0 (omega arith) in
    ap₂ (λ a b. pair_bytes big a b ++ pairs_of big highs lows) (hs 0 (omega arith)) (ls 0 (omega arith))
    ∙ ap (λ t. pair_bytes big (three_high x y) (short_low y z) ++ t)
    (woven-added big y z xs ys zs highs lows (omega (arith, p)) (omega (arith, q)) (omega (arith, r)) (omega (arith, s))
    (λ i b. fx (suc i) (omega arith)) (λ i b. fy (suc i) (omega arith)) (λ i b. fz (suc i) (omega arith))
    (λ i b. are (suc i) (omega arith)) (λ i b. hs (suc i) (omega arith)) (λ i b. ls (suc i) (omega arith)))
    ∙ sym (three-added big b2 b1 x y z (woven xs ys zs) (fx 0 (omega arith)) (fy 0 (omega arith)) (fz 0 (omega arith)) is.first is.second is.third)

-- ---- well formed

-- the high byte of a unit that is at least U+0800 and not a surrogate
abbrev pub IsHigh : ℕ → Type 0
IsHigh high = (8 ≤ high) × ((high < 0xD8) ⊎ (0xE0 ≤ high))

-- one character
three-utf8 : (x y z : ℕ) → x < 256 → y < 256 → z < 256 → IsThree x y z → IsHigh (three_high x y) → IsUtf8 (x ∷ y ∷ z ∷ [])
three-utf8 x y z p q r is high =
    let c = x % 16 * 4096 + (y % 64 * 64 + z % 64) in
    let first : bit_and x 0xF0 ≡ x / 16 % 16 * 16 = and_high x 4 4 in
    let second : bit_and y 0xC0 ≡ y / 64 % 4 * 64 = and_high y 2 6 in
    let third : bit_and z 0xC0 ≡ z / 64 % 4 * 64 = and_high z 2 6 in
    let upper : three_high x y ≡ c / 256 = (three-bytes x y z).is_high in
    let least : 0x800 ≤ c = omega (arith, upper, high.0) in
    let most : c < 0x1_0000 = omega arith in
    let scalar : IsScalar c = ⊎_elim
    (λ (low : three_high x y < 0xD8). low_scalar c (omega (arith, upper, low)))
    (λ (above : 0xE0 ≤ three_high x y). high_scalar c (omega (arith, upper, above)) (omega (arith, most)))
    high.1 in
    let a : 224 + c / 4096 ≡ x = omega (arith, is.first, first, p) in
    let b : 128 + c / 64 % 64 ≡ y = omega (arith, is.second, second, q) in
    let d : 128 + c % 64 ≡ z = omega (arith, is.third, third, r) in
    let bytes : encode c ≡ x ∷ y ∷ z ∷ [] = three_bytes c least most ∙ ap₂ (λ s t. s ∷ t) a (ap₂ (λ s t. s ∷ t ∷ []) b d) in
    subst IsUtf8 bytes (IsUtf8-encode c scalar)

-- several
pub woven-utf8 : (xs ys zs : List ℕ) → length ys ≡ length xs → length zs ≡ length xs
    → ((i : ℕ) → i < length xs → slice_index xs i < 256) → ((i : ℕ) → i < length xs → slice_index ys i < 256) → ((i : ℕ) → i < length xs → slice_index zs i < 256)
    → ((i : ℕ) → i < length xs → IsThree (slice_index xs i) (slice_index ys i) (slice_index zs i))
    → ((i : ℕ) → i < length xs → IsHigh (three_high (slice_index xs i) (slice_index ys i))) → IsUtf8 (woven xs ys zs)
woven-utf8 [] ys zs p q fx fy fz are highs = IsUtf8-nil
woven-utf8 (x ∷ xs) [] zs p q fx fy fz are highs = absurd (omega (arith, p))
woven-utf8 (x ∷ xs) (y ∷ ys) [] p q fx fy fz are highs = absurd (omega (arith, q))
woven-utf8 (x ∷ xs) (y ∷ ys) (z ∷ zs) p q fx fy fz are highs =
    IsUtf8-append (x ∷ y ∷ z ∷ []) (woven xs ys zs)
    (three-utf8 x y z (fx 0 (omega arith)) (fy 0 (omega arith)) (fz 0 (omega arith)) (are 0 (omega arith)) (highs 0 (omega arith)))
    (woven-utf8 xs ys zs (omega (arith, p)) (omega (arith, q))
    (λ i b. fx (suc i) (omega arith)) (λ i b. fy (suc i) (omega arith)) (λ i b. fz (suc i) (omega arith))
    (λ i b. are (suc i) (omega arith)) (λ i b. highs (suc i) (omega arith)))
