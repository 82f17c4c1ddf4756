-- The unit that ends at a byte of characters of at most two, three and four bytes, by lanes.
use Rattle.std.proofs.Common.{◌≡◌, ℕ, zero, suc, ◌+◌, ◌-◌, ◌*◌, ◌/◌, ◌%◌, ◌^◌, ◌<◌, ◌≤◌, ◌&&◌, ◌⊎◌, ⊎_elim, inl, inr, Bool, cond, ltb, bit_and, bit_or, sym, refl, ap, ap₂, ◌∙◌, arith, lt-ltb, le-ltb}
use Rattle.std.proofs.lemmas.Bool.{cases_lt}
use Rattle.std.proofs.lemmas.Nat.{and_assoc, and_mask}
use Rattle.std.proofs.lemmas.Nat.Bits.{and_high}
use Rattle.std.proofs.Math.Bool.{and-true}
use Rattle.std.specs.Int.Bits.{or_add_and, or_zero_r}
use Rattle.utf16_from_utf8.specs.Added.{unit_after}
use Rattle.utf16_from_utf8.specs.Follow.{FollowsAny, FollowsAtMost, FollowsTwo}
use Rattle.utf16_from_utf8.specs.UnitLanes.{AreBytes, IsUnit, four_high, four_low, high_of, lead_low, lead_part, leading_of, low_of, previous_of, short_high, trailing_of}
use Rattle.utf16_from_utf8.proofs.AddedLemmas.{unit-leading, unit-one, unit-three, unit-trailing, unit-two}
use Rattle.utf16_from_utf8.proofs.LaneByteLemmas.{bytes-by}

-- ---- at most two bytes

-- in the lane of the second byte of two, the bits of the first; elsewhere zero
abbrev pub two_lead : ℕ → ℕ
two_lead b1 = (cond (ltb b1 0xC0) 0xC0 b1 + 0x40) % 2 ^ 8

abbrev pub two_low : ℕ → ℕ → ℕ
two_low b1 b0 = (bit_and b0 0x7F + two_lead b1 * 2 ^ 6 % 2 ^ 8) % 2 ^ 8

two-lead-none : (b1 : ℕ) → b1 < 0xC0 → two_lead b1 ≡ 0
two-lead-none b1 a = rw (lt-ltb b1 0xC0 a) refl

two-lead-is : (b1 : ℕ) → 0xC0 ≤ b1 → b1 < 0xE0 → two_lead b1 ≡ b1 - 0xC0
two-lead-is b1 a b = ap (λ (x : Bool). (cond x 0xC0 b1 + 0x40) % 2 ^ 8) (le-ltb b1 0xC0 a) ∙ omega (arith, a, b)

two-unit : (b2 b1 b0 : ℕ) → FollowsTwo 0xE0 0 b1 b0 → b0 < 0xC0 → AreBytes (unit_after b2 b1 b0) (two_lead b1 / 2 ^ 2) (two_low b1 b0)
two-unit b2 b1 b0 follows low = ⊎_elim
    (λ (a : b0 < 0x80).
    let none : b1 < 0xC0 = ⊎_elim (λ (b : b1 < 0xC0). b) (λ (b : 0xC0 ≤ b1). absurd (omega (arith, a, (follows.continues.0 (inl b)).0))) (cases_lt b1 0xC0) in
    let unit = unit-one b2 b1 b0 a in
    let bits = two-lead-none b1 none in
    record { is_high = omega (arith, unit, bits, a); is_low = omega (arith, unit, bits, a, last) })
    (λ (a : 0x80 ≤ b0).
    let lead : 0xC0 ≤ b1 = ⊎_elim (λ (b : 0xC0 ≤ b1). b) (λ (b : 0xE0 ≤ 0). absurd (omega (arith, b))) (follows.continues.1 (a, low)) in
    let unit = unit-two b2 b1 b0 a lead in
    let bits = two-lead-is b1 lead follows.one in
    record { is_high = omega (arith, unit, bits, lead, follows.one); is_low = omega (arith, unit, bits, lead, follows.one, a, low, last) })
    (cases_lt b0 0x80)
  where
    last : bit_and b0 0x7F ≡ b0 % 128
    last = and_mask b0 7

pub two-is : (b2 b1 b0 bit high low : ℕ) → FollowsAtMost 2 b2 b1 b0 → ◌≡◌ {A = ℕ} bit (cond (ltb b0 0xC0) 1 0)
    → high ≡ two_lead b1 / 2 ^ 2 → low ≡ two_low b1 b0 → IsUnit b2 b1 b0 bit high low
two-is b2 b1 b0 bit high low follows is h l =
    let two : FollowsTwo 0xE0 b2 b1 b0 = follows.0 (omega arith) in
    let lone : FollowsTwo 0xE0 0 b1 b0 = record {
      continues = (
        (λ begun. ⊎_elim (λ (a : 0xC0 ≤ b1). two.continues.0 (inl a)) (λ (a : 0xE0 ≤ 0). absurd (omega (arith, a))) begun),
        (λ cont. ⊎_elim (λ (a : 0xC0 ≤ b1). inl a) (λ (a : 0xE0 ≤ b2). absurd (omega (arith, a, two.two))) (two.continues.1 cont)),
      );
      apart = inl (omega arith);
      two = omega arith;
      one = two.one;
    } in
    let ended : (ltb b0 0xC0 && ltb b1 0xE0) ≡ ltb b0 0xC0 = ap (λ x. ltb b0 0xC0 && x) (lt-ltb b1 0xE0 two.one) ∙ and-true (ltb b0 0xC0) in
    record {
      ends = is ∙ ap (λ (x : Bool). cond x 1 0) (sym ended);
      bytes = λ a b. let are = two-unit b2 b1 b0 lone a in record { is_high = h ∙ are.is_high; is_low = l ∙ are.is_low };
    }

-- ---- at most three

-- in the lane of the third byte of three, the first; elsewhere a byte whose lower bits are zero
abbrev pub three_lead : ℕ → ℕ
three_lead b2 = cond (ltb b2 0xE0) 0xE0 b2

pub previous-none : (b1 b0 : ℕ) → b0 < 0x80 → previous_of b1 b0 ≡ 0xC0
previous-none b1 b0 a = ap (λ (x : Bool). cond x 0xC0 b1) (lt-ltb b0 0x80 a)

pub previous-is : (b1 b0 : ℕ) → 0x80 ≤ b0 → previous_of b1 b0 ≡ b1
previous-is b1 b0 a = ap (λ (x : Bool). cond x 0xC0 b1) (le-ltb b0 0x80 a)

pub three-lead-none : (b2 : ℕ) → b2 < 0xE0 → three_lead b2 ≡ 0xE0
three-lead-none b2 a = ap (λ (x : Bool). cond x 0xE0 b2) (lt-ltb b2 0xE0 a)

three-lead-is : (b2 : ℕ) → 0xE0 ≤ b2 → three_lead b2 ≡ b2
three-lead-is b2 a = ap (λ (x : Bool). cond x 0xE0 b2) (le-ltb b2 0xE0 a)

pub three-unit : (b2 b1 b0 : ℕ) → FollowsTwo 0xF0 b2 b1 b0 → b0 < 0xC0 → b1 < 0xE0 → AreBytes (unit_after b2 b1 b0) (high_of b2 (previous_of b1 b0)) (low_of (previous_of b1 b0) b0)
three-unit b2 b1 b0 follows low before = ⊎_elim
    (λ (a : b0 < 0x80).
    let none : b2 < 0xE0 = ⊎_elim (λ (b : b2 < 0xE0). b) (λ (b : 0xE0 ≤ b2). absurd (omega (arith, a, (follows.continues.0 (inr b)).0))) (cases_lt b2 0xE0) in
    let unit = unit-one b2 b1 b0 a in
    let bits = three-lead-none b2 none in
    let previous = previous-none b1 b0 a in
    let mid = ap (λ x. bit_and (x / 2 ^ 2) 0xF) previous in
    record { is_high = ap₂ (λ x y. (x + y * 2 ^ 4 % 2 ^ 8) % 2 ^ 8) mid bits ∙ omega (arith, unit, a); is_low = omega (arith, unit, previous, a, last) })
    (λ (a : 0x80 ≤ b0).
    let previous = previous-is b1 b0 a in
    let mid : bit_and (previous_of b1 b0 / 2 ^ 2) 0xF ≡ b1 / 4 % 16 = ap (λ x. bit_and (x / 2 ^ 2) 0xF) previous ∙ and_mask (b1 / 4) 4 in
    ⊎_elim
    (λ (b : b1 < 0xC0).
    let three : 0xE0 ≤ b2 = ⊎_elim (λ (d : 0xC0 ≤ b1). absurd (omega (arith, b, d))) (λ (d : 0xE0 ≤ b2). d) (follows.continues.1 (a, low)) in
    let unit = unit-three b2 b1 b0 a b three follows.two in
    let bits = three-lead-is b2 three in
    record { is_high = omega (arith, unit, bits, mid, three, follows.two); is_low = omega (arith, unit, previous, last, a, low) })
    (λ (b : 0xC0 ≤ b1).
    let none : b2 < 0xE0 = ⊎_elim (λ (d : b2 < 0xE0). d) (λ (d : b1 < 0xC0). absurd (omega (arith, b, d))) follows.apart in
    let unit = unit-two b2 b1 b0 a b in
    let bits = three-lead-none b2 none in
    record { is_high = omega (arith, unit, bits, mid, b, before); is_low = omega (arith, unit, previous, last, a, low, b, before) })
    (cases_lt b1 0xC0))
    (cases_lt b0 0x80)
  where
    last : bit_and b0 0x7F ≡ b0 % 128
    last = and_mask b0 7

-- ---- at most four

-- ---- the upper bits of a trailing surrogate

trail-bits : (n : ℕ) → bit_or (bit_and n 0xF) 0xDC ≡ 0xDC + n % 4
trail-bits n =
    let four : bit_and n 0xF ≡ n % 16 = and_mask n 4 in
    let both : bit_and (bit_and n 0xF) 0xDC ≡ n / 4 % 4 * 4 = and_assoc 0xDC n 0xF ∙ and_high n 2 2 in
    omega (arith, four, both, or_add_and (bit_and n 0xF) 0xDC)

trailing-none : (b2 previous : ℕ) → (0xC0 ≤ previous) ⊎ (0xC0 ≤ b2) → trailing_of b2 previous ≡ 0
trailing-none b2 previous some = ap (λ (t : Bool). cond t 0xDC 0) (le-ltb (cond (ltb previous b2) b2 previous) 0xC0 (⊎_elim
    (λ (a : previous < b2). rw (lt-ltb previous b2 a) (⊎_elim (λ (b : 0xC0 ≤ previous). omega (arith, a, b)) (λ (b : 0xC0 ≤ b2). b) some))
    (λ (a : b2 ≤ previous). rw (le-ltb previous b2 a) (⊎_elim (λ (b : 0xC0 ≤ previous). b) (λ (b : 0xC0 ≤ b2). omega (arith, a, b)) some))
    (cases_lt previous b2)))

trailing-is : (b2 previous : ℕ) → previous < 0xC0 → b2 < 0xC0 → trailing_of b2 previous ≡ 0xDC
trailing-is b2 previous one two = ap (λ (t : Bool). cond t 0xDC 0) (lt-ltb (cond (ltb previous b2) b2 previous) 0xC0 (⊎_elim
    (λ (a : previous < b2). rw (lt-ltb previous b2 a) two)
    (λ (a : b2 ≤ previous). rw (le-ltb previous b2 a) one)
    (cases_lt previous b2)))

-- ---- the unit, by its kind

other-unit : (b2 b1 b0 : ℕ) → FollowsAny b2 b1 b0 → b2 < 0xF0 → b0 < 0xC0 → b1 < 0xE0 → ((0x80 ≤ b0) × (b0 < 0xC0) → (0xC0 ≤ b1) ⊎ (0xE0 ≤ b2))
    → (0xC0 ≤ previous_of b1 b0) ⊎ (0xC0 ≤ b2) → AreBytes (unit_after b2 b1 b0) (short_high b2 b1 b0) (low_of (previous_of b1 b0) b0)
other-unit b2 b1 b0 follows three low one begun some =
    bytes-by _ _ _ _ _ (ap (bit_or (high_of b2 (previous_of b1 b0))) (trailing-none b2 (previous_of b1 b0) some) ∙ or_zero_r (high_of b2 (previous_of b1 b0))) refl
    (three-unit b2 b1 b0 (record { continues = (follows.continues, begun); apart = follows.apart; two = three; one = omega (arith, one) }) low one)

trailing-unit : (b2 b1 b0 : ℕ) → 0x80 ≤ b0 → b0 < 0xC0 → b1 < 0xC0 → b2 < 0xC0 → AreBytes (unit_after b2 b1 b0) (short_high b2 b1 b0) (low_of (previous_of b1 b0) b0)
trailing-unit b2 b1 b0 many low one two =
    let far : b2 < 0xE0 = omega (arith, two) in
    let previous = previous-is b1 b0 many in
    let bits : high_of b2 (previous_of b1 b0) ≡ bit_and (b1 / 4) 0xF =
    ap₂ (λ x y. (bit_and (x / 2 ^ 2) 0xF + y * 2 ^ 4 % 2 ^ 8) % 2 ^ 8) previous (three-lead-none b2 far) ∙ omega (arith, and_mask (b1 / 4) 4) in
    let last : bit_and b0 0x7F ≡ b0 % 128 = and_mask b0 7 in
    let mark : trailing_of b2 (previous_of b1 b0) ≡ 0xDC = ap (trailing_of b2) previous ∙ trailing-is b2 b1 one two in
    let unit = unit-trailing b2 b1 b0 many one far in
    record { is_high = ap₂ bit_or bits mark ∙ trail-bits (b1 / 4) ∙ omega (arith, unit); is_low = omega (arith, previous, last, many, low, unit) }

leading-unit : (b2 b1 b0 : ℕ) → 0x80 ≤ b0 → b0 < 0xC0 → b1 < 0xC0 → 0xF0 ≤ b2 → b2 < 0xF5 → AreBytes (unit_after b2 b1 b0) (leading_of b2 (lead_part b1 b0)) (lead_low (lead_part b1 b0))
leading-unit b2 b1 b0 many low one four most =
    let last : bit_and (b0 / 16) 3 ≡ b0 / 16 % 4 = and_mask (b0 / 16) 2 in
    let part : lead_part b1 b0 ≡ b1 % 64 * 4 + b0 % 64 / 16 = omega (arith, last, low) in
    let unit = unit-leading b2 b1 b0 many one four in
    record {
      is_high = ⊎_elim
          (λ (below : lead_part b1 b0 < 0x40). ap (λ (t : Bool). (b2 + cond t 0xE7 0xE8) % 256) (lt-ltb (lead_part b1 b0) 0x40 below) ∙ omega (arith, part, unit, four, most, below))
          (λ (from : 0x40 ≤ lead_part b1 b0). ap (λ (t : Bool). (b2 + cond t 0xE7 0xE8) % 256) (le-ltb (lead_part b1 b0) 0x40 from) ∙ omega (arith, part, unit, four, most, from))
          (cases_lt (lead_part b1 b0) 0x40);
      is_low = omega (arith, part, unit);
    }

-- ---- any of them

short-unit : (b2 b1 b0 : ℕ) → FollowsAny b2 b1 b0 → b2 < 0xF0 → b0 < 0xC0 → b1 < 0xE0 → AreBytes (unit_after b2 b1 b0) (short_high b2 b1 b0) (low_of (previous_of b1 b0) b0)
short-unit b2 b1 b0 follows three low one =
    let other = other-unit b2 b1 b0 follows three low one in
    ⊎_elim
    (λ (a : b0 < 0x80). other (λ cont. absurd (omega (arith, a, cont.0))) (inl (omega (arith, previous-none b1 b0 a))))
    (λ (a : 0x80 ≤ b0). ⊎_elim
    (λ (b : 0xC0 ≤ b1). other (λ cont. inl b) (inl (omega (arith, b, previous-is b1 b0 a))))
    (λ more. ⊎_elim
    (λ (b : 0xE0 ≤ b2). other (λ cont. inr b) (inr (omega (arith, b))))
    (λ (b : (b1 < 0xC0) × (b2 < 0xC0)). trailing-unit b2 b1 b0 a low b.0 b.1)
    more)
    (follows.last (a, low)))
    (cases_lt b0 0x80)

pub four-unit : (b2 b1 b0 : ℕ) → FollowsAny b2 b1 b0 → b0 < 0xC0 → b1 < 0xE0 → AreBytes (unit_after b2 b1 b0) (four_high b2 b1 b0) (four_low b2 b1 b0)
four-unit b2 b1 b0 follows low one = ⊎_elim
    (λ (a : b2 < 0xF0). rw (lt-ltb b2 0xF0 a) (short-unit b2 b1 b0 follows a low one))
    (λ (a : 0xF0 ≤ b2).
    let three : 0xE0 ≤ b2 = omega (arith, a) in
    let inner : b1 < 0xC0 = ⊎_elim (λ (b : b2 < 0xE0). absurd (omega (arith, b, three))) (λ (b : b1 < 0xC0). b) follows.apart in
    rw (le-ltb b2 0xF0 a) (leading-unit b2 b1 b0 (follows.continues (inr three)).0 low inner a follows.begins))
    (cases_lt b2 0xF0)

-- ---- ASCII

pub ascii-is : (b2 b1 b0 bit high : ℕ) → FollowsAny b2 b1 b0 → b0 < 0x80 → bit ≡ 1 → high ≡ 0 → IsUnit b2 b1 b0 bit high b0
ascii-is b2 b1 b0 bit high follows low one none =
    let small : b0 < 0xC0 = omega (arith, low) in
    let ended : b1 < 0xE0 = ⊎_elim (λ (a : b1 < 0xC0). omega (arith, a)) (λ (a : 0xC0 ≤ b1). absurd (omega (arith, low, (follows.continues (inl a)).0))) (cases_lt b1 0xC0) in
    record {
      ends = one ∙ sym (ap₂ (λ (x y : Bool). cond (x && y) 1 0) (lt-ltb b0 0xC0 small) (lt-ltb b1 0xE0 ended));
      bytes = λ a b.
          let unit = unit-one b2 b1 b0 low in
          record { is_high = omega (arith, unit, none, low); is_low = omega (arith, unit, low) };
    }

-- all of sixteen bits are set
pub all-set : (i : ℕ) → i < 16 → ◌≡◌ {A = ℕ} (0xFFFF / 2 ^ i % 2) 1
all-set zero b = refl
all-set (suc zero) b = refl
all-set (suc (suc zero)) b = refl
all-set (suc (suc (suc zero))) b = refl
all-set (suc (suc (suc (suc zero)))) b = refl
all-set (suc (suc (suc (suc (suc zero))))) b = refl
all-set (suc (suc (suc (suc (suc (suc zero)))))) b = refl
all-set (suc (suc (suc (suc (suc (suc (suc zero))))))) b = refl
all-set (suc (suc (suc (suc (suc (suc (suc (suc i)))))))) b = next i (omega (arith, b))
  where
    next : (i : ℕ) → i < 8 → ◌≡◌ {A = ℕ} (0xFFFF / 2 ^ suc (suc (suc (suc (suc (suc (suc (suc i))))))) % 2) 1
    next zero b = refl
    next (suc zero) b = refl
    next (suc (suc zero)) b = refl
    next (suc (suc (suc zero))) b = refl
    next (suc (suc (suc (suc zero)))) b = refl
    next (suc (suc (suc (suc (suc zero))))) b = refl
    next (suc (suc (suc (suc (suc (suc zero)))))) b = refl
    next (suc (suc (suc (suc (suc (suc (suc zero))))))) b = refl
    next (suc (suc (suc (suc (suc (suc (suc (suc i)))))))) b = absurd (omega (arith, b))
