-- What lanes compute of a unit is what the unit adds.
use Rattle.std.proofs.Common.{◌≡◌, ℕ, ◌+◌, ◌-◌, ◌*◌, ◌/◌, ◌%◌, ◌^◌, ◌<◌, ◌≤◌, ◌⊎◌, Bool, true, false, cond, ltb, List, [], ◌∷◌, Fits, w16, length, slice_index, bit_and, refl, sym, ap, ap₂, ◌∙◌, ⊎_elim, arith, inl, inr, eq-eqb, eqb-true, lt-ltb, le-ltb}
use Rattle.std.proofs.lemmas.Bool.{cases_lt, false_from_ne_true}
use Rattle.std.proofs.lemmas.Nat.{and_mask}
use Rattle.std.proofs.lemmas.Nat.Bits.{and_high}
use Rattle.std.proofs.lemmas.Simd.{Each1-get_or}
use lib.Lanes.{Each1}
use Rattle.utf16_units.specs.Lanes.{HasLanes}
use Rattle.utf16_to_utf8.specs.Lanes.{absence, added_len, ending, is_surrogate, low, narrow, outer, plus, surrogate_bits, third, two, two_bytes, up, wide}
use Rattle.utf16_to_utf8.specs.Pack.{IsKept, IsPair, IsThree}
use Rattle.utf16_to_utf8.specs.Utf8.{continuation, unit_utf8}
use Rattle.utf16_to_utf8.proofs.UnitLemmas.{unit-leading, unit-one, unit-three, unit-trailing, unit-two}

-- the classes of units by what they add
abbrev Between : ℕ → ℕ → ℕ → Type 0
Between low high u = (low ≤ u) × (u < high)

abbrev Class : ℕ → Type 0
Class u = (u < 0x80) ⊎ (Between 0x80 0x800 u ⊎ (Between 0xD800 0xDC00 u ⊎ (Between 0xDC00 0xE000 u ⊎ ((0x800 ≤ u) × ((u < 0xD800) ⊎ (0xE000 ≤ u))))))

class : (u : ℕ) → Class u
class u = ⊎_elim (λ (a : u < 0x80). inl a)
    (λ (b : 0x80 ≤ u). ⊎_elim (λ (a : u < 0x800). inr (inl (b, a)))
    (λ (c : 0x800 ≤ u). ⊎_elim (λ (a : u < 0xD800). inr (inr (inr (inr (c, inl a)))))
    (λ (d : 0xD800 ≤ u). ⊎_elim (λ (a : u < 0xDC00). inr (inr (inl (d, a))))
    (λ (e : 0xDC00 ≤ u). ⊎_elim (λ (a : u < 0xE000). inr (inr (inr (inl (e, a)))))
    (λ (f : 0xE000 ≤ u). inr (inr (inr (inr (c, inr f)))))
    (cases_lt u 0xE000)) (cases_lt u 0xDC00)) (cases_lt u 0xD800)) (cases_lt u 0x800)) (cases_lt u 0x80)

pub surrogate-is : (u : ℕ) → u < 0x1_0000 → 0xD800 ≤ u → u < 0xE000 → is_surrogate u ≡ true
surrogate-is u below a b =
    let high : bit_and u 0xF800 ≡ u / 2048 % 32 * 2048 = and_high u 5 11 in
    eq-eqb _ _ (omega (arith, high))

pub surrogate-no : (u : ℕ) → u < 0x1_0000 → (u < 0xD800) ⊎ (0xE000 ≤ u) → is_surrogate u ≡ false
surrogate-no u below s =
    let high : bit_and u 0xF800 ≡ u / 2048 % 32 * 2048 = and_high u 5 11 in
    false_from_ne_true (is_surrogate u) (λ e.
    let is = eqb-true _ _ e in
    ⊎_elim (λ (l : u < 0xD800). omega (arith, high, is, l)) (λ (g : 0xE000 ≤ u). omega (arith, high, is, g)) s)

-- two bytes in a lane
two_bytes-is : (replacement bits : ℕ) → replacement + bits / 64 < 0x100 → two_bytes (0x8000 + replacement) bits ≡ (replacement + bits / 64) + 256 * continuation bits
two_bytes-is replacement bits small =
    let low : bit_and bits 0x3F ≡ bits % 64 = and_mask bits 6 in
    omega (arith, low)

pub bytes_of : (x y lane : ℕ) → x < 256 → y < 256 → lane ≡ x + 256 * y → (lane % 256 ≡ x) × (lane / 256 ≡ y)
bytes_of x y lane a b e = (omega arith, omega arith)

pub third-is : (u : ℕ) → third u ≡ continuation u
third-is u =
    let low : bit_and u 0x3F ≡ u % 64 = and_mask u 6 in
    omega (arith, low)

-- the first two bytes, by class
narrow-one : (p u : ℕ) → u < 0x80 → narrow p u ≡ u
narrow-one p u a = rw (lt-ltb u 0x80 a) refl

two_bits : (p u : ℕ) → Between 0x80 0x800 u → narrow p u ≡ two_bytes 0x8000 (plus u 0x3000)
two_bits p u b =
    let low : u < 0x8000 = omega (arith, b.1) in
    rw (le-ltb u 0x80 b.0, lt-ltb u 0x8000 low) refl

surrogate_two : (p u : ℕ) → Between 0xD800 0xE000 u → narrow p u ≡ two_bytes 0x8000 (surrogate_bits p u)
surrogate_two p u b =
    let above : 0x80 ≤ u = omega (arith, b.0) in
    let high : 0x8000 ≤ u = omega (arith, b.0) in
    rw (le-ltb u 0x80 above, le-ltb u 0x8000 high) refl

narrow-two : (p u : ℕ) → Between 0x80 0x800 u → narrow p u ≡ (0xC0 + u / 64) + 256 * continuation u
narrow-two p u b = two_bits p u b ∙ two_bytes-is 0 (plus u 0x3000) (omega (arith, b.1)) ∙ omega (arith, b.1)

narrow-leading : (p u : ℕ) → Between 0xD800 0xDC00 u → narrow p u ≡ (0xF0 + (u - 0xD7C0) / 256) + 256 * continuation ((u - 0xD7C0) / 4)
narrow-leading p u b =
    let bits = plus u 0x2400 / 2 ^ 2 - 0x2F0 in
    let low : bit_and p 3 ≡ p % 4 = and_mask p 2 in
    let is : surrogate_bits p u ≡ bits = rw (le-ltb bits (plus (up (bit_and p 3) 10) (plus u 0x4400)) (omega (arith, low, b.0, b.1))) refl in
    surrogate_two p u (b.0, omega (arith, b.1)) ∙ ap (two_bytes 0x8000) is ∙ two_bytes-is 0 bits (omega (arith, b.1)) ∙ omega (arith, b.0, b.1)

narrow-trailing : (p u : ℕ) → Between 0xDC00 0xE000 u → narrow p u ≡ continuation (p % 4 * 16 + u % 1024 / 64) + 256 * continuation u
narrow-trailing p u b =
    let bits = 0x2000 + (p % 4 * 1024 + u % 1024) in
    let low : bit_and p 3 ≡ p % 4 = and_mask p 2 in
    let is : plus (up (bit_and p 3) 10) (plus u 0x4400) ≡ bits = omega (arith, low, b.0, b.1) in
    let chosen : surrogate_bits p u ≡ plus (up (bit_and p 3) 10) (plus u 0x4400) = rw (lt-ltb (plus u 0x2400 / 2 ^ 2 - 0x2F0) (plus (up (bit_and p 3) 10) (plus u 0x4400)) (omega (arith, is, b.0, b.1))) refl in
    surrogate_two p u (omega (arith, b.0), b.1) ∙ ap (two_bytes 0x8000) (chosen ∙ is) ∙ two_bytes-is 0 bits (omega arith) ∙ omega arith

pub added_len-basic : (u : ℕ) → 0x800 ≤ u → is_surrogate u ≡ false → added_len u ≡ 3
added_len-basic u from none =
    let above : 0x80 ≤ u = omega (arith, from) in
    rw (le-ltb u 0x80 above, le-ltb u 0x800 from, none) refl

-- a unit that adds at most two bytes and is not a surrogate
pub letter-below : (u : ℕ) → is_surrogate u ≡ false → added_len u ≤ 2 → u < 0x800
letter-below u none few = ⊎_elim (λ (a : u < 0x800). a) (λ (b : 0x800 ≤ u). absurd (omega (arith, added_len-basic u b none, few))) (cases_lt u 0x800)

wide-is : (u : ℕ) → u < 0x1_0000 → wide u ≡ (0xE0 + u / 4096) + 256 * continuation (u / 64)
wide-is u below = two_bytes-is 0xE0 (u / 64) (omega arith) ∙ omega arith

-- how many bytes are added, by class
pub added_len-three : (u : ℕ) → u < 0x1_0000 → 0x800 ≤ u → (u < 0xD800) ⊎ (0xE000 ≤ u) → added_len u ≡ 3
added_len-three u below a s = added_len-basic u a (surrogate-no u below s)

added_len-surrogate : (u : ℕ) → Between 0xD800 0xE000 u → added_len u ≡ 2
added_len-surrogate u b =
    let below : u < 0x1_0000 = omega (arith, b.1) in
    let above : 0x80 ≤ u = omega (arith, b.0) in
    let a : 0x800 ≤ u = omega (arith, b.0) in
    rw (le-ltb u 0x80 above, le-ltb u 0x800 a, surrogate-is u below b.0 b.1) refl

-- one byte of a lane, or both, if the unit does not add a third
abbrev pub one_or_two : Bool → ℕ → ℕ → List ℕ
one_or_two flag first second = cond flag (first ∷ []) (first ∷ second ∷ [])

both : (u x y lane : ℕ) → 0x80 ≤ u → x < 256 → y < 256 → lane ≡ x + 256 * y → one_or_two (ltb u 0x80) (lane % 256) (lane / 256 % 256) ≡ x ∷ y ∷ []
both u x y lane above a b e =
    let is = bytes_of x y lane a b e in
    rw (le-ltb u 0x80 above) (ap₂ (λ m n. m ∷ n ∷ []) is.0 (omega (arith, is.1)))

pub narrow-utf8 : (p u : ℕ) → u < 0x1_0000 → added_len u ≤ 2 → one_or_two (ltb u 0x80) (narrow p u % 256) (narrow p u / 256 % 256) ≡ unit_utf8 p u
narrow-utf8 p u below few = go (class u)
  where
    go : Class u → one_or_two (ltb u 0x80) (narrow p u % 256) (narrow p u / 256 % 256) ≡ unit_utf8 p u
    go (inl a) = rw (lt-ltb u 0x80 a) (ap (λ x. x ∷ []) (omega (arith, narrow-one p u a)) ∙ sym (unit-one p u a))
    go (inr (inl b)) = both u (0xC0 + u / 64) (continuation u) _ b.0 (omega (arith, b.1)) (omega arith) (narrow-two p u b) ∙ sym (unit-two p u b.0 b.1)
    go (inr (inr (inl b))) = both u (0xF0 + (u - 0xD7C0) / 256) (continuation ((u - 0xD7C0) / 4)) _ (omega (arith, b.0)) (omega (arith, b.1)) (omega arith) (narrow-leading p u b) ∙ sym (unit-leading p u b.0 b.1)
    go (inr (inr (inr (inl b)))) = both u (continuation (p % 4 * 16 + u % 1024 / 64)) (continuation u) _ (omega (arith, b.0)) (omega arith) (omega arith) (narrow-trailing p u b) ∙ sym (unit-trailing p u b.0 b.1)
    go (inr (inr (inr (inr b)))) = absurd (omega (arith, few, added_len-three u below b.0 b.1))

pub wide-utf8 : (p u : ℕ) → u < 0x1_0000 → added_len u ≡ 3 → (wide u % 256) ∷ (wide u / 256 % 256) ∷ (third u % 256) ∷ [] ≡ unit_utf8 p u
wide-utf8 p u below are = go (class u)
  where
    go : Class u → (wide u % 256) ∷ (wide u / 256 % 256) ∷ (third u % 256) ∷ [] ≡ unit_utf8 p u
    go (inl a) = absurd (let e : added_len u ≡ 1 = rw (lt-ltb u 0x80 a) refl in omega (arith, are, e))
    go (inr (inl b)) = absurd (let e : added_len u ≡ 2 = rw (le-ltb u 0x80 b.0, lt-ltb u 0x800 b.1) refl in omega (arith, are, e))
    go (inr (inr (inl b))) = absurd (omega (arith, are, added_len-surrogate u (b.0, omega (arith, b.1))))
    go (inr (inr (inr (inl b)))) = absurd (omega (arith, are, added_len-surrogate u (omega (arith, b.0), b.1)))
    go (inr (inr (inr (inr b)))) =
        let is = bytes_of (0xE0 + u / 4096) (continuation (u / 64)) _ (omega arith) (omega arith) (wide-is u below) in
        ap₂ (λ x y. x ∷ y ∷ (third u % 256) ∷ []) is.0 (omega (arith, is.1)) ∙ ap (λ z. (0xE0 + u / 4096) ∷ continuation (u / 64) ∷ z ∷ []) (omega (arith, third-is u))
        ∙ sym (unit-three p u b.0 b.1)

pub added_len-le : (u : ℕ) → added_len u ≤ 3
added_len-le u = go (ltb u 0x80) (ltb u 0x800) (is_surrogate u)
  where
    go : (a b c : Bool) → cond a 1 (cond b 2 (cond c 2 3)) ≤ 3
    go true b c = omega arith
    go false true c = omega arith
    go false false true = omega arith
    go false false false = omega arith

-- ---- any unit, by the bytes that its class keeps

upper-bit : (n : ℕ) → bit_and n 0x8000 ≡ n / 0x8000 % 2 * 0x8000
upper-bit n = and_high n 1 15

-- what is kept if the flags of a unit are known
kept-two : (p u : ℕ) → u < 0x1_0000 → 0x80 ≤ u → added_len u ≤ 2 → two u ≡ 0x8000 → ending p u ≡ narrow p u → IsKept p u (outer u) (ending p u) (absence u)
kept-two p u below above few is same =
    let one : ltb 0x7F (absence u % 256) ≡ false = le-ltb 0x7F _ (omega (arith, is, above)) in
    let high : ltb 0x7F (absence u / 256 % 256) ≡ true = lt-ltb 0x7F _ (omega (arith, is, above)) in
    rw (one, high, same) (sym (ap (λ flag. one_or_two flag (narrow p u % 256) (narrow p u / 256 % 256)) (le-ltb u 0x80 above)) ∙ narrow-utf8 p u below few)

kept-surrogate : (p u : ℕ) → u < 0x1_0000 → Between 0xD800 0xE000 u → IsKept p u (outer u) (ending p u) (absence u)
kept-surrogate p u below b =
    let is = surrogate-is u below b.0 b.1 in
    kept-two p u below (omega (arith, b.0)) (omega (arith, added_len-surrogate u b)) (ap (λ s. cond s 0x8000 (low u)) is)
    (ap (λ s. two_bytes 0x8000 (cond s (surrogate_bits p u) (plus (bit_and u 0xFFF) (plus 0x2000 (low u / 2 ^ 3))))) is ∙ sym (surrogate_two p u b))

-- a unit that is not a surrogate
two-other : (u : ℕ) → is_surrogate u ≡ false → two u ≡ (0x87FF - u) / 0x8000 % 2 * 0x8000
two-other u plain = ap (λ s. cond s 0x8000 (low u)) plain ∙ upper-bit (0x87FF - u)

ending-other : (p u : ℕ) → is_surrogate u ≡ false → ending p u ≡ two_bytes 0x8000 (plus (u % 0x1000) (plus 0x2000 ((0x87FF - u) / 0x8000 % 2 * 0x1000)))
ending-other p u plain =
    let bits : bit_and u 0xFFF ≡ u % 0x1000 = and_mask u 12 in
    let tag : low u / 2 ^ 3 ≡ (0x87FF - u) / 0x8000 % 2 * 0x1000 = omega (arith, upper-bit (0x87FF - u)) in
    ap (λ s. two_bytes 0x8000 (cond s (surrogate_bits p u) (plus (bit_and u 0xFFF) (plus 0x2000 (low u / 2 ^ 3))))) plain
    ∙ ap₂ (λ a b. two_bytes 0x8000 (plus a (plus 0x2000 b))) bits tag

pub kept-utf8 : (p u : ℕ) → u < 0x1_0000 → IsKept p u (outer u) (ending p u) (absence u)
kept-utf8 p u below = go (class u)
  where
    go : Class u → IsKept p u (outer u) (ending p u) (absence u)
    go (inl a) =
        let is = two-other u (surrogate-no u below (inl (omega (arith, a)))) in
        let one : ltb 0x7F (absence u % 256) ≡ true = lt-ltb 0x7F _ (omega (arith, is, a)) in
        let high : ltb 0x7F (absence u / 256 % 256) ≡ true = lt-ltb 0x7F _ (omega (arith, is, a)) in
        rw (one, high) (ap (λ x. x ∷ []) (omega (arith, a)) ∙ sym (unit-one p u a))
    go (inr (inl b)) =
        let plain = surrogate-no u below (inl (omega (arith, b.1))) in
        let few : added_len u ≤ 2 = grind (arith, b.0, b.1) in
        let bits : plus (u % 0x1000) (plus 0x2000 ((0x87FF - u) / 0x8000 % 2 * 0x1000)) ≡ plus u 0x3000 = omega (arith, b.1) in
        kept-two p u below b.0 few (omega (arith, two-other u plain, b.1)) (ending-other p u plain ∙ ap (two_bytes 0x8000) bits ∙ sym (two_bits p u b))
    go (inr (inr (inl b))) = kept-surrogate p u below (b.0, omega (arith, b.1))
    go (inr (inr (inr (inl b)))) = kept-surrogate p u below (omega (arith, b.0), b.1)
    go (inr (inr (inr (inr b)))) =
        let plain = surrogate-no u below b.1 in
        let is = two-other u plain in
        let one : ltb 0x7F (absence u % 256) ≡ false = le-ltb 0x7F _ (omega (arith, is, b.0)) in
        let high : ltb 0x7F (absence u / 256 % 256) ≡ false = le-ltb 0x7F _ (omega (arith, is, b.0)) in
        let bits = u % 0x1000 + 0x2000 in
        let tags : plus (u % 0x1000) (plus 0x2000 ((0x87FF - u) / 0x8000 % 2 * 0x1000)) ≡ bits = omega (arith, b.0) in
        let both = bytes_of (continuation (u / 64)) (continuation u) _ (omega arith) (omega arith)
        (ending-other p u plain ∙ ap (two_bytes 0x8000) tags ∙ two_bytes-is 0 bits (omega arith) ∙ omega arith) in
        let first : outer u % 256 ≡ 0xE0 + u / 4096 = omega (arith, below) in
        rw (one, high, first) (ap₂ (λ x y. (0xE0 + u / 4096) ∷ x ∷ y ∷ []) both.0 (omega (arith, both.1)) ∙ sym (unit-three p u b.0 b.1))

pub length-unit : (p u : ℕ) → u < 0x1_0000 → length (unit_utf8 p u) ≡ added_len u
length-unit p u below = go (class u)
  where
    go : Class u → length (unit_utf8 p u) ≡ added_len u
    go (inl a) = ap length (unit-one p u a) ∙ sym (ap (λ b. cond b 1 (cond (ltb u 0x800) 2 (cond (is_surrogate u) 2 3))) (lt-ltb u 0x80 a))
    go (inr (inl b)) = ap length (unit-two p u b.0 b.1) ∙ sym (ap₂ (λ x y. cond x 1 (cond y 2 (cond (is_surrogate u) 2 3))) (le-ltb u 0x80 b.0) (lt-ltb u 0x800 b.1))
    go (inr (inr (inl b))) = ap length (unit-leading p u b.0 b.1) ∙ sym (added_len-surrogate u (b.0, omega (arith, b.1)))
    go (inr (inr (inr (inl b)))) = ap length (unit-trailing p u b.0 b.1) ∙ sym (added_len-surrogate u (omega (arith, b.0), b.1))
    go (inr (inr (inr (inr b)))) = ap length (unit-three p u b.0 b.1) ∙ sym (added_len-three u below b.0 b.1)

-- ---- the lanes of n units

module _ (n : ℕ) (units : List ℕ) (long : length units ≡ n) (fit : Each1 (Fits w16) units) where
  below : (i : ℕ) → i < n → slice_index units i < 0x1_0000
  below i lt = (Each1-get_or (Fits w16) units i 0 (omega (arith, lt, long)) fit).fits

  pub threes-of : (fronts thirds : List ℕ) → HasLanes n fronts (λ i. wide (slice_index units i)) → HasLanes n thirds (λ i. third (slice_index units i))
      → ((i : ℕ) → i < n → added_len (slice_index units i) ≡ 3) → (i : ℕ) → i < n → IsThree (slice_index units i) (slice_index fronts i) (slice_index thirds i)
  threes-of fronts thirds x y are i lt last = rw (x.lanes i lt, y.lanes i lt) (wide-utf8 last (slice_index units i) (below i lt) (are i lt))

  module _ (before : ℕ) (preceding : List ℕ) (behind : HasLanes n preceding (λ i. slice_index (before ∷ units) i)) where
    pub pairs-of : (pairs : List ℕ) → HasLanes n pairs (λ i. narrow (slice_index preceding i) (slice_index units i)) → ((i : ℕ) → i < n → added_len (slice_index units i) ≤ 2)
        → (i : ℕ) → i < n → IsPair (slice_index (before ∷ units) i) (slice_index units i) (slice_index pairs i)
    pairs-of pairs x few i lt = rw (x.lanes i lt, behind.lanes i lt) (narrow-utf8 (slice_index (before ∷ units) i) (slice_index units i) (below i lt) (few i lt))

    pub kept-of : (outers endings absences : List ℕ) → HasLanes n outers (λ i. outer (slice_index units i)) → HasLanes n endings (λ i. ending (slice_index preceding i) (slice_index units i))
        → HasLanes n absences (λ i. absence (slice_index units i))
        → (i : ℕ) → i < n → IsKept (slice_index (before ∷ units) i) (slice_index units i) (slice_index outers i) (slice_index endings i) (slice_index absences i)
    kept-of outers endings absences x y z i lt =
        rw (x.lanes i lt, y.lanes i lt, z.lanes i lt, behind.lanes i lt) (kept-utf8 (slice_index (before ∷ units) i) (slice_index units i) (below i lt))
