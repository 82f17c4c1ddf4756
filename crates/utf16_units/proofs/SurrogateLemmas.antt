-- The surrogates of a block of units, by their high bytes and as bits.
use Rattle.std.proofs.Common.{◌≡◌, ℕ, ◌+◌, ◌-◌, ◌*◌, ◌/◌, ◌%◌, ◌^◌, ◌<◌, ◌≤◌, ◌&&◌, Bool, true, false, cond, eqb, leb, ltb, List, [], ◌∷◌, ◌++◌, map, length, replicate, bit_and, refl, sym, ap, ap₂, ◌∙◌, subst, ⊎_elim, arith, Fits, w8, w16, length-append, true≢false}
use Rattle.std.proofs.lemmas.Bool.{and_parts, cases_Bool, cases_lt, eqb-false, eqb-true, false_from_ne_true, le-leb, leb-true, lt-leb, lt-ltb, ltb-true}
use Rattle.std.proofs.lemmas.List.{length-map}
use Rattle.std.proofs.lemmas.List.Elements.{All-cons, All-nil, All-head, All-tail}
use Rattle.std.proofs.lemmas.Nat.{mod_low, one_shl}
use Rattle.std.proofs.lemmas.Nat.Bits.{and_high}
use Rattle.std.proofs.lemmas.Simd.{bitmask_splat, map-map, mask_l-lt, zip2_splat}
use Rattle.std.proofs.Math.Nat.{mod-eq_of_lt, pow-le-pow_right, two-pow-succ}
use Rattle.std.specs.Char.Utf16.{is_high_surrogate, is_low_surrogate}
use lib.Lanes.{Each1, mask_l, top, zip2}
use mir.Val.{bool_byte}
use Rattle.utf16_units.specs.Lanes.{HasNoSurrogate, IsNoSurrogate, Paired, high_byte}

-- the high bytes of units, as lanes compute them: each fits into a byte
high_bytes-fit : (units : List ℕ) → Each1 (Fits w16) units → Each1 (Fits w8) (map high_byte units)
high_bytes-fit [] fit = tt
high_bytes-fit (unit ∷ units) fit = let below = fit.0.fits in (record { fits = omega (arith, below) }, high_bytes-fit units fit.1)

module _ (units : List ℕ) (n : ℕ) (long : length units ≡ n) where
  shifted : zip2 (λ (u bits : ℕ). u / 2 ^ bits) units (replicate n 8) ≡ map high_byte units
  shifted = zip2_splat (λ (u bits : ℕ). u / 2 ^ bits) units n 8 long

  pub high_bytes-lanes : map (λ (u : ℕ). u) (zip2 (λ (u bits : ℕ). u / 2 ^ bits) units (replicate n 8)) ≡ map high_byte units
  high_bytes-lanes = ap (map (λ (u : ℕ). u)) shifted ∙ map-map (λ (u : ℕ). u) high_byte units

  pub high_bytes-lanes_fit : Each1 (Fits w16) units → Each1 (Fits w8) (zip2 (λ (u bits : ℕ). u / 2 ^ bits) units (replicate n 8))
  high_bytes-lanes_fit fit = subst (Each1 (Fits w8)) (sym shifted) (high_bytes-fit units fit)

-- the bits of the bytes that a mask makes equal to a class
pub class_bits-mask_l : (bytes : List ℕ) (n mask class : ℕ) → length bytes ≡ n → n ≤ 64
    → mask_l (map (top 7) (zip2 (λ a b. cond (eqb a b) 255 0) (zip2 bit_and bytes (replicate n mask)) (replicate n class))) % 2 ^ 64
    ≡ mask_l (map (λ byte. eqb (bit_and byte mask) class) bytes)
class_bits-mask_l bytes n mask class long few =
    let masked = zip2_splat bit_and bytes n mask long in
    bitmask_splat w8 eqb (zip2 bit_and bytes (replicate n mask)) n class (ap length masked ∙ length-map bytes _ ∙ long) few
    ∙ ap (λ bs. mask_l (map (λ b. eqb b class) bs)) masked
    ∙ ap mask_l (map-map (λ b. eqb b class) (λ byte. bit_and byte mask) bytes)

-- the bits of the units whose high bytes it makes equal to it
pub class_bits-highs : (units highs : List ℕ) (n mask class : ℕ) → length units ≡ n → n ≤ 64 → highs ≡ map high_byte units
    → mask_l (map (top 7) (zip2 (λ a b. cond (eqb a b) 255 0) (zip2 bit_and highs (replicate n mask)) (replicate n class))) % 2 ^ 64
    ≡ mask_l (map (λ unit. eqb (bit_and (high_byte unit) mask) class) units)
class_bits-highs units highs n mask class many few are =
    class_bits-mask_l highs n mask class (ap length are ∙ length-map units high_byte ∙ many) few
    ∙ ap (λ hs. mask_l (map (λ high. eqb (bit_and high mask) class) hs)) are
    ∙ ap mask_l (map-map (λ high. eqb (bit_and high mask) class) high_byte units)

-- ---- the two classes of surrogates, each of 1024 units: at 54 the leading ones, at 55 the
-- trailing ones

abbrev pub in_class : ℕ → ℕ → Bool
in_class m unit = leb (1024 * m) unit && ltb unit (1024 * m + 1024)

-- a comparison of two numbers that are equal exactly for the units of a class
pub class_by : (m unit x y : ℕ) → (x ≡ y → (1024 * m ≤ unit) × (unit < 1024 * m + 1024)) → (1024 * m ≤ unit → unit < 1024 * m + 1024 → x ≡ y) → eqb x y ≡ in_class m unit
class_by m unit x y within same = ⊎_elim
    (λ (yes : eqb x y ≡ true).
    let range = within (eqb-true x y yes) in
    yes ∙ sym (ap₂ (λ a b. a && b) (le-leb (1024 * m) unit range.0) (lt-ltb unit (1024 * m + 1024) range.1)))
    (λ (no : eqb x y ≡ false).
    no ∙ sym (false_from_ne_true (in_class m unit) (λ yes.
    let parts = and_parts (leb (1024 * m) unit) (ltb unit (1024 * m + 1024)) yes in
    eqb-false x y no (same (leb-true _ _ parts.0) (ltb-true _ _ parts.1)))))
    (cases_Bool (eqb x y))

class_of_high : (m unit : ℕ) → unit < 0x1_0000 → m < 64 → eqb (bit_and (high_byte unit) 0xFC) (4 * m) ≡ in_class m unit
class_of_high m unit small few =
    let upper : bit_and (unit / 256) 0xFC ≡ unit / 256 / 4 % 64 * 4 = and_high (unit / 256) 6 2 in
    class_by m unit (bit_and (unit / 256) 0xFC) (4 * m) (λ same. (omega arith, omega arith)) (λ from below. omega arith)

-- the bits of a class
pub class_bits-units : (m : ℕ) (units : List ℕ) → m < 64 → Each1 (Fits w16) units
    → mask_l (map (λ unit. eqb (bit_and (high_byte unit) 0xFC) (4 * m)) units) ≡ mask_l (map (in_class m) units)
class_bits-units m [] few fit = refl
class_bits-units m (unit ∷ units) few fit = ap₂ (λ b bits. cond b 1 0 + 2 * bits) (class_of_high m unit fit.0.fits few) (class_bits-units m units few fit.1)

-- ---- pairs, by bits

pub mask_l-last : (bits : List Bool) (last : Bool) → mask_l (bits ++ last ∷ []) ≡ mask_l bits + cond last (2 ^ length bits) 0
mask_l-last [] true = refl
mask_l-last [] false = refl
mask_l-last (b ∷ bits) true = omega (arith, mask_l-last bits true, two-pow-succ (length bits))
mask_l-last (b ∷ bits) false = omega (arith, mask_l-last bits false)

same_bit : (a b : Bool) (m n : ℕ) → cond a 1 0 + 2 * m ≡ cond b 1 0 + 2 * n → (a ≡ b) × (m ≡ n)
same_bit true true m n e = (refl, omega arith)
same_bit true false m n e = absurd (omega arith)
same_bit false true m n e = absurd (omega arith)
same_bit false false m n e = (refl, omega arith)

pub mask_l-injective : (xs ys : List Bool) → length xs ≡ length ys → mask_l xs ≡ mask_l ys → xs ≡ ys
mask_l-injective [] [] long e = refl
mask_l-injective [] (y ∷ ys) long e = absurd (omega arith)
mask_l-injective (x ∷ xs) [] long e = absurd (omega arith)
mask_l-injective (x ∷ xs) (y ∷ ys) long e =
    let parts = same_bit x y (mask_l xs) (mask_l ys) e in
    ap₂ (λ b bs. b ∷ bs) parts.0 (mask_l-injective xs ys (omega arith) parts.1)

-- a number below twice a power of two, by its low bits and the one above them
halves : (e k : ℕ) → e < 2 ^ k + 2 ^ k → e % 2 ^ k + cond (leb (2 ^ k) e) (2 ^ k) 0 ≡ e
halves e k below = ⊎_elim
    (λ (low : e < 2 ^ k). ap₂ (λ r b. r + cond b (2 ^ k) 0) (mod-eq_of_lt low) (lt-leb (2 ^ k) e low) ∙ omega arith)
    (λ (high : 2 ^ k ≤ e).
    let split : e ≡ 1 * 2 ^ k + (e - 2 ^ k) = omega arith in
    ap₂ (λ r b. r + cond b (2 ^ k) 0) (ap (λ n. n % 2 ^ k) split ∙ mod_low 1 k (e - 2 ^ k) (omega arith)) (le-leb (2 ^ k) e high) ∙ omega arith)
    (cases_lt e (2 ^ k))

-- the low bits of a number below a power of two, with the bit above them or without it
low_part : (after : Bool) (k m : ℕ) → m < 2 ^ k → (m + cond after (2 ^ k) 0) % 2 ^ k ≡ m
low_part true k m below =
    let swapped : m + 2 ^ k ≡ 1 * 2 ^ k + m = omega arith in
    ap (λ n. n % 2 ^ k) swapped ∙ mod_low 1 k m below
low_part false k m below =
    let same : m + 0 ≡ m = omega arith in
    ap (λ n. n % 2 ^ k) same ∙ mod-eq_of_lt below

byte-cond : (b : Bool) → bool_byte b ≡ cond b 1 0
byte-cond true = refl
byte-cond false = refl

bit-below : (b : Bool) → cond b 1 0 < 2
bit-below true = omega arith
bit-below false = omega arith

module _ (units : List ℕ) (n leading : ℕ) (long : length units ≡ n) (bits : leading ≡ mask_l (map is_high_surrogate units)) where
  count : {A : Type 0} (f : ℕ → A) → length (map f units) ≡ n
  count f = length-map units f ∙ long

  leading-below : leading < 2 ^ n
  leading-below =
      subst (λ k. leading < 2 ^ k) (count is_high_surrogate)
      (subst (λ l. l < 2 ^ length (map is_high_surrogate units)) (sym bits) (mask_l-lt (map is_high_surrogate units)))

  pub expected-fits : (before : Bool) → n ≤ 32 → 2 * leading + bool_byte before < 2 ^ 34
  expected-fits before few =
      let most : 2 ^ n ≤ 2 ^ 32 = pow-le-pow_right {n = 2} (omega arith) few in
      omega (arith, leading-below, byte-cond before, bit-below before)

  -- if the trailing units are the leading ones shifted by one, the surrogates are paired, and the
  -- bit above says whether the last unit is leading
  pub paired_by_bits : (before : Bool) → n ≤ 32
      → mask_l (map is_low_surrogate units) ≡ (2 * leading + bool_byte before) % (1 * 2 ^ n % 2 ^ 64)
      → Paired before units (leb (1 * 2 ^ n % 2 ^ 64) (2 * leading + bool_byte before))
  paired_by_bits before few e =
      let expected = 2 * leading + bool_byte before in
      let power : 1 * 2 ^ n % 2 ^ 64 ≡ 2 ^ n = one_shl n 64 (omega arith) in
      let after = leb (1 * 2 ^ n % 2 ^ 64) expected in
      let lows = map is_low_surrogate units in
      let low_count = count is_low_surrogate in
      mask_l-injective (lows ++ after ∷ []) (before ∷ map is_high_surrogate units)
      (omega (arith, length-append lows (after ∷ []), low_count, count is_high_surrogate))
      (mask_l-last lows after ∙ ap (λ k. mask_l lows + cond after (2 ^ k) 0) low_count
      ∙ ap₂ (λ m b. m + cond b (2 ^ n) 0) (e ∙ ap (λ p. expected % p) power) (ap (λ p. leb p expected) power)
      ∙ halves expected n (omega (arith, leading-below, byte-cond before, bit-below before))
      ∙ omega (arith, bits, byte-cond before))

  -- if the surrogates are paired, the trailing units are the leading ones shifted by one
  pub bits_by_paired : (before after : Bool) → n ≤ 32 → Paired before units after
      → mask_l (map is_low_surrogate units) ≡ (2 * leading + bool_byte before) % (1 * 2 ^ n % 2 ^ 64)
  bits_by_paired before after few p =
      let lows = map is_low_surrogate units in
      let low_count = count is_low_surrogate in
      let power : 1 * 2 ^ n % 2 ^ 64 ≡ 2 ^ n = one_shl n 64 (omega arith) in
      let below : mask_l lows < 2 ^ n = subst (λ k. mask_l lows < 2 ^ k) low_count (mask_l-lt lows) in
      let last : mask_l (before ∷ map is_high_surrogate units) ≡ mask_l lows + cond after (2 ^ n) 0 =
      sym (ap mask_l p) ∙ mask_l-last lows after ∙ ap (λ k. mask_l lows + cond after (2 ^ k) 0) low_count in
      let whole : mask_l lows + cond after (2 ^ n) 0 ≡ 2 * leading + bool_byte before = sym last ∙ omega (arith, bits, byte-cond before) in
      sym (low_part after n (mask_l lows) below) ∙ ap (λ m. m % 2 ^ n) whole ∙ ap (λ p. (2 * leading + bool_byte before) % p) (sym power)

-- the upper five bits of a surrogate's high byte are its own
pub no_surrogate_here : (unit : ℕ) → eqb (bit_and (high_byte unit) 0xF8) 0xD8 ≡ false → IsNoSurrogate unit
no_surrogate_here unit other =
    let upper : bit_and (unit / 256) 0xF8 ≡ unit / 256 / 8 % 32 * 8 = and_high (unit / 256) 5 3 in
    let outside : (m : ℕ) → 54 ≤ m → m < 56 → in_class m unit ≡ false = λ m from to.
    false_from_ne_true (in_class m unit) (λ yes.
    let parts = and_parts (leb (1024 * m) unit) (ltb unit (1024 * m + 1024)) yes in
    let least = leb-true _ _ parts.0 in
    let most = ltb-true _ _ parts.1 in
    eqb-false (bit_and (high_byte unit) 0xF8) 0xD8 other (omega arith)) in
    (outside 54 (omega arith) (omega arith), outside 55 (omega arith) (omega arith))

-- no unit has these bits: none is a surrogate
pub no_surrogate_by_bits : (units : List ℕ) → mask_l (map (λ unit. eqb (bit_and (high_byte unit) 0xF8) 0xD8) units) ≡ 0 → HasNoSurrogate units
no_surrogate_by_bits [] none = All-nil IsNoSurrogate
no_surrogate_by_bits (unit ∷ units) none =
    let here = same_bit (eqb (bit_and (high_byte unit) 0xF8) 0xD8) false _ 0 none in
    All-cons IsNoSurrogate unit units (no_surrogate_here unit here.0) (no_surrogate_by_bits units here.1)

pub surrogate_there : (unit : ℕ) → unit < 0x1_0000 → IsNoSurrogate unit → eqb (bit_and (high_byte unit) 0xF8) 0xD8 ≡ false
surrogate_there unit small plain =
    let upper : bit_and (unit / 256) 0xF8 ≡ unit / 256 / 8 % 32 * 8 = and_high (unit / 256) 5 3 in
    let inside : (m : ℕ) → 1024 * m ≤ unit → unit < 1024 * m + 1024 → in_class m unit ≡ true = λ m from to.
    ap₂ (λ a b. a && b) (le-leb (1024 * m) unit from) (lt-ltb unit (1024 * m + 1024) to) in
    false_from_ne_true (eqb (bit_and (high_byte unit) 0xF8) 0xD8) (λ yes.
    let bits : bit_and (unit / 256) 0xF8 ≡ 0xD8 = eqb-true _ _ yes in
    ⊎_elim
    (λ (low : unit < 0xDC00). true≢false (sym (inside 54 (omega arith) (omega arith)) ∙ plain.0))
    (λ (high : 0xDC00 ≤ unit). true≢false (sym (inside 55 (omega arith) (omega arith)) ∙ plain.1))
    (cases_lt unit 0xDC00))

-- and none has them if none is a surrogate
pub bits_of_no_surrogate : (units : List ℕ) → Each1 (Fits w16) units → HasNoSurrogate units → mask_l (map (λ unit. eqb (bit_and (high_byte unit) 0xF8) 0xD8) units) ≡ 0
bits_of_no_surrogate [] fit plain = refl
bits_of_no_surrogate (unit ∷ units) fit plain =
    ap₂ (λ bit rest. cond bit 1 0 + 2 * rest) (surrogate_there unit fit.0.fits (All-head IsNoSurrogate unit units plain))
    (bits_of_no_surrogate units fit.1 (All-tail IsNoSurrogate unit units plain))
