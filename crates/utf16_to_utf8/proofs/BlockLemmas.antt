-- The units of a block, and what the bits of its classes mean.
use Rattle.std.proofs.Common.{◌≡◌, ℕ, zero, suc, ◌+◌, ◌*◌, ◌/◌, ◌%◌, ◌<◌, ◌≤◌, ◌⊎◌, Bool, true, false, cond, eqb, ltb, inl, inr, List, [], ◌∷◌, ◌++◌, All, length, slice_index, take, drop, bit_and, refl, sym, ap, ap₂, ◌∙◌, subst, ⊎_elim, arith, eqb-true, eq-eqb, lt-ltb, append-nil, append_assoc, length-drop, take-append-drop, take_all}
use Rattle.std.proofs.lemmas.Bool.{cases_Bool, eqb-false, false_from_ne_true, true≢false}
use Rattle.std.proofs.lemmas.List.Elements.{All-head, All-tail}
use Rattle.std.proofs.lemmas.Nat.Bits.{and_high}
use Rattle.std.proofs.lemmas.Simd.{get_or-chunk, length-chunk}
use lib.Lanes.{chunk}
use Rattle.utf16_units.specs.Lanes.{high_byte}
use Rattle.utf16_to_utf8.specs.Lanes.{added_len, is_surrogate}
use Rattle.utf16_to_utf8.specs.Utf8.{unit_utf8, units_utf8}
use Rattle.utf16_to_utf8.proofs.ListLemmas.{units-cons, units-nil}
use Rattle.utf16_to_utf8.proofs.UnitLemmas.{unit-one}

-- ---- how many bytes a unit adds, by the upper five bits of its high byte

abbrev pub is_low : ℕ → Bool
is_low unit = eqb (bit_and (high_byte unit) 0xF8) 0

low-below : (u : ℕ) → u < 0x1_0000 → is_low u ≡ true → u < 0x800
low-below u below e =
    let high : bit_and (u / 256) 0xF8 ≡ u / 256 / 8 % 32 * 8 = and_high (u / 256) 5 3 in
    let is = eqb-true _ _ e in
    omega (arith, high, is)

pub low-is : (u : ℕ) → u < 0x800 → is_low u ≡ true
low-is u a =
    let high : bit_and (u / 256) 0xF8 ≡ u / 256 / 8 % 32 * 8 = and_high (u / 256) 5 3 in
    eq-eqb _ _ (omega (arith, high, a))

pub low-no : (u : ℕ) → u < 0x1_0000 → 0x800 ≤ u → is_low u ≡ false
low-no u below a = false_from_ne_true (is_low u) (λ e. omega (arith, a, low-below u below e))

abbrev pub has_surrogate_byte : ℕ → Bool
has_surrogate_byte unit = eqb (bit_and (high_byte unit) 0xF8) 0xD8

-- the upper five bits of a unit are the upper five bits of its high byte
pub surrogate_byte : (u : ℕ) → has_surrogate_byte u ≡ is_surrogate u
surrogate_byte u =
    let high : bit_and (u / 256) 0xF8 ≡ u / 256 / 8 % 32 * 8 = and_high (u / 256) 5 3 in
    let upper : bit_and u 0xF800 ≡ u / 2048 % 32 * 2048 = and_high u 5 11 in
    ⊎_elim
    (λ (yes : has_surrogate_byte u ≡ true).
    let is = eqb-true _ _ yes in
    yes ∙ sym (eq-eqb (bit_and u 0xF800) 0xD800 (omega (arith, high, upper, is))))
    (λ (no : has_surrogate_byte u ≡ false).
    no ∙ sym (false_from_ne_true (is_surrogate u) (λ e.
    let is = eqb-true _ _ e in
    eqb-false (bit_and (high_byte u) 0xF8) 0xD8 no (omega (arith, high, upper, is)))))
    (cases_Bool (has_surrogate_byte u))

two_at_most : (a b c : Bool) → (b ≡ true) ⊎ (c ≡ true) → cond a 1 (cond b 2 (cond c 2 3)) ≤ 2
two_at_most true b c s = omega arith
two_at_most false true c s = omega arith
two_at_most false false true s = omega arith
two_at_most false false false (inl e) = absurd (true≢false (sym e))
two_at_most false false false (inr e) = absurd (true≢false (sym e))

pub narrow-kind : (u : ℕ) → u < 0x1_0000 → (is_low u ≡ true) ⊎ (is_surrogate u ≡ true) → added_len u ≤ 2
narrow-kind u below (inl low) = two_at_most (ltb u 0x80) (ltb u 0x800) (is_surrogate u) (inl (lt-ltb u 0x800 (low-below u below low)))
narrow-kind u below (inr s) = two_at_most (ltb u 0x80) (ltb u 0x800) (is_surrogate u) (inr s)

-- ---- ASCII

pub ascii-units : (before : ℕ) (units : List ℕ) → All (λ unit. unit < 0x80) units → units_utf8 before units ≡ units
ascii-units before [] are = units-nil before
ascii-units before (u ∷ units) are =
    units-cons before u units
    ∙ ap₂ (λ xs ys. xs ++ ys) (unit-one before u (All-head (λ v. v < 0x80) u units are)) (ascii-units u units (All-tail (λ v. v < 0x80) u units are))

-- ---- eight of a block

-- what units add if others follow them
pub units-append : (n before : ℕ) (units more : List ℕ) → length units ≡ n + 1 → units_utf8 before (units ++ more) ≡ units_utf8 before units ++ units_utf8 (slice_index units n) more
units-append n before [] more long = absurd (omega arith)
units-append zero before (u ∷ []) more long = units-cons before u more ∙ sym (ap (λ bs. bs ++ units_utf8 u more) (units-cons before u [] ∙ ap (λ bs. unit_utf8 before u ++ bs) (units-nil u) ∙ append-nil (unit_utf8 before u)))
units-append zero before (u ∷ v ∷ units) more long = absurd (omega arith)
units-append (suc n) before (u ∷ units) more long =
    units-cons before u (units ++ more) ∙ ap (λ bs. unit_utf8 before u ++ bs) (units-append n u units more (omega arith))
    ∙ sym (append_assoc (unit_utf8 before u) (units_utf8 u units) (units_utf8 (slice_index units n) more))
    ∙ ap (λ bs. bs ++ units_utf8 (slice_index units n) more) (sym (units-cons before u units))

-- a step of a writer over n + 1 units: what was written and what is left to add are all
pub wrote_units : (n : ℕ) (done next all units more : List ℕ) (before : ℕ) → length units ≡ n + 1 → next ≡ done ++ units_utf8 before units → done ++ units_utf8 before (units ++ more) ≡ all
    → next ++ units_utf8 (slice_index units n) more ≡ all
wrote_units n done next all units more before long wrote e =
    ap (λ bs. bs ++ units_utf8 (slice_index units n) more) wrote
    ∙ append_assoc done (units_utf8 before units) (units_utf8 (slice_index units n) more)
    ∙ ap (λ bs. done ++ bs) (sym (units-append n before units more long)) ∙ e

pub halves : (n : ℕ) (units : List ℕ) → length units ≡ n + n → units ≡ chunk 0 n units ++ chunk n n units
halves n units long = sym (take-append-drop n units) ∙ ap (λ us. take n units ++ us) (sym (take_all n (drop n units) (omega (arith, length-drop n units, long))))

-- what was written in two steps, each of half of the units
pub both_halves : (n before : ℕ) (units done next all : List ℕ) → length units ≡ n + 1 + (n + 1) → next ≡ done ++ units_utf8 before (chunk 0 (n + 1) units)
    → all ≡ next ++ units_utf8 (slice_index units n) (chunk (n + 1) (n + 1) units) → all ≡ done ++ units_utf8 before units
both_halves n before units done next all long first second =
    let low = chunk 0 (n + 1) units in
    let high = chunk (n + 1) (n + 1) units in
    let here : 0 + n ≡ n = omega arith in
    second ∙ ap (λ bs. bs ++ units_utf8 (slice_index units n) high) first
    ∙ append_assoc done (units_utf8 before low) (units_utf8 (slice_index units n) high)
    ∙ ap (λ bs. done ++ bs) (ap (λ last. units_utf8 before low ++ units_utf8 last high) (sym (get_or-chunk 0 (n + 1) units n 0 (omega arith) ∙ ap (slice_index units) here))
    ∙ sym (units-append n before low high (length-chunk 0 (n + 1) units (omega (arith, long)))) ∙ ap (units_utf8 before) (sym (halves (n + 1) units long)))

-- what holds of each unit, the one before it and their lanes holds of eight of them
module _ (R : ℕ → ℕ → ℕ → ℕ → ℕ → Type 0) (before a : ℕ) (units : List ℕ) where
  last_of : (i : ℕ) → i < 8 → slice_index (slice_index (before ∷ units) a ∷ chunk a 8 units) i ≡ slice_index (before ∷ units) (a + i)
  last_of zero lt = let here : a ≡ a + 0 = omega arith in ap (slice_index (before ∷ units)) here
  last_of (suc i) lt = let next : suc (a + i) ≡ a + suc i = omega arith in get_or-chunk a 8 units i 0 (omega (arith, lt)) ∙ ap (slice_index (before ∷ units)) next

  pub of_eight : a + 8 ≤ 16 → (xs ys zs x y z : List ℕ) → x ≡ chunk a 8 xs → y ≡ chunk a 8 ys → z ≡ chunk a 8 zs
      → ((i : ℕ) → i < 16 → R (slice_index (before ∷ units) i) (slice_index units i) (slice_index xs i) (slice_index ys i) (slice_index zs i))
      → (i : ℕ) → i < 8 → R (slice_index (slice_index (before ∷ units) a ∷ chunk a 8 units) i) (slice_index (chunk a 8 units) i) (slice_index x i) (slice_index y i) (slice_index z i)
  of_eight room xs ys zs x y z px py pz are i lt =
      let lane = λ (v vs : List ℕ) (e : v ≡ chunk a 8 vs). ap (λ l. slice_index l i) e ∙ get_or-chunk a 8 vs i 0 lt in
      rw (last_of i lt, lane _ units refl, lane x xs px, lane y ys py, lane z zs pz) (are (a + i) (omega (arith, lt, room)))

-- what holds of each unit of a block holds of some of them
pub kind_of-part : (P : ℕ → Type 0) (n a : ℕ) (units part : List ℕ) → a + n ≤ length units → part ≡ chunk a n units
    → ((i : ℕ) → i < length units → P (slice_index units i)) → (i : ℕ) → i < length part → P (slice_index part i)
kind_of-part P n a units part room is are i lt =
    let long = ap length is ∙ length-chunk a n units room in
    let within : i < n = omega (arith, lt, long) in
    subst P (sym (ap (λ us. slice_index us i) is ∙ get_or-chunk a n units i 0 within)) (are (a + i) (omega (arith, within, room)))
