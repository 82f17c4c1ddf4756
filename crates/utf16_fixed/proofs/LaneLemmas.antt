-- Low units of UTF-32 in lanes, and how they are compared.
use Rattle.std.proofs.Common.{◌≡◌, ℕ, All, ◌+◌, ◌-◌, ◌%◌, ◌^◌, ◌<◌, ◌≤◌, false, cond, ltb, List, [], ◌∷◌, length, map, replicate, ⊎_elim, refl, sym, ap, ◌∙◌, subst, arith, Fits, w16, w32, lt-ltb, le-ltb}
use lib.Lanes.{Each1, mask_l, sel_l, top, zip2}
use Rattle.std.proofs.lemmas.Bool.{cases_lt, ltb-false}
use Rattle.std.proofs.lemmas.Bool.Decides.{nat_tests}
use Rattle.std.proofs.lemmas.List.Elements.{All-cons, All-head, All-nil, All-tail, All-weaker}
use Rattle.std.proofs.lemmas.Simd.{bitmask_splat, tops_compared, zip2_splat}
use Rattle.utf16_units.specs.Lanes.{HasNoSurrogate}
use Rattle.utf16_fixed.specs.Progress.{IsBasicLow, from_surrogates, low_unit}
use Rattle.utf16_fixed.specs.Utf32.{AreBasic}
use Rattle.utf16_fixed.proofs.PlainLemmas.{IsNoSurrogate-of}
use Rattle.utf16_fixed.proofs.TextLemmas.{Encodes-plain}
use Rattle.utf16_fixed.proofs.ValidLemmas.{none_set}

-- ---- low units

low-fits : (u : ℕ) → Fits w16 (low_unit u)
low-fits u = record { fits = grind (arith, nat_tests) }

-- a unit of sixteen bits is its low unit
low-same : (u : ℕ) → u ≤ 0xFFFF → low_unit u ≡ u
low-same u le = grind (arith, nat_tests)

pub low-all : (units : List ℕ) → All (λ unit. unit ≤ 0xFFFF) units → map low_unit units ≡ units
low-all [] le = refl
low-all (u ∷ units) le = grind (arith, low-same, All-head, All-tail, low-all units (All-tail (λ unit. unit ≤ 0xFFFF) u units le))

lowest : (units : List ℕ) → sel_l (zip2 ltb units (replicate (length units) 0xFFFF)) units (replicate (length units) 0xFFFF) ≡ map low_unit units
lowest [] = refl
lowest (u ∷ units) = ap (λ us. low_unit u ∷ us) (lowest units)

low-each : (units : List ℕ) → Each1 (Fits w16) (map low_unit units)
low-each [] = tt
low-each (u ∷ units) = (low-fits u, low-each units)

module _ (n : ℕ) (units : List ℕ) (long : length units ≡ n) where
  pub lowest-lanes : sel_l (map (top 31) (zip2 (λ (a b : ℕ). cond (ltb a b) (2 ^ 32 - 1) 0) units (replicate n 0xFFFF))) units (replicate n 0xFFFF) ≡ map low_unit units
  lowest-lanes =
      ap (λ flags. sel_l flags units (replicate n 0xFFFF)) (tops_compared w32 ltb units (replicate n 0xFFFF))
      ∙ subst (λ k. sel_l (zip2 ltb units (replicate k 0xFFFF)) units (replicate k 0xFFFF) ≡ map low_unit units) long (lowest units)

  pub lowest-fit : Each1 (Fits w16) (sel_l (map (top 31) (zip2 (λ (a b : ℕ). cond (ltb a b) (2 ^ 32 - 1) 0) units (replicate n 0xFFFF))) units (replicate n 0xFFFF))
  lowest-fit = subst (Each1 (Fits w16)) (sym lowest-lanes) (low-each units)

-- a low unit below 0xFFFF is of the same unit
low-below : (u : ℕ) → low_unit u < 0xFFFF → u < 0xFFFF
low-below u below = grind (arith, nat_tests)

lows-below : (units : List ℕ) → All IsBasicLow (map low_unit units) → All (λ unit. unit ≤ 0xFFFF) units
lows-below [] lows = All-nil (λ unit. unit ≤ 0xFFFF)
lows-below (u ∷ units) lows =
    grind (arith, low-below, All-head, All-cons, All-tail, lows-below units (All-tail IsBasicLow (low_unit u) (map low_unit units) lows))

-- units whose low units are not surrogates
pub AreBasic-of : (units : List ℕ) → All (λ unit. unit ≤ 0xFFFF) units → HasNoSurrogate units → AreBasic units
AreBasic-of units le plain = grind (arith, All-weaker, Encodes-plain)

pub AreBasic-lows : (units : List ℕ) → All IsBasicLow (map low_unit units) → (map low_unit units ≡ units) × AreBasic units
AreBasic-lows units lows = grind (arith, lows-below, low-all, AreBasic-of, All-weaker, IsNoSurrogate-of)

-- ---- the least and the greatest lanes of two vectors

pub least-both : (limit : ℕ) (a b : List ℕ) → length a ≡ length b → All (λ unit. limit ≤ unit) (sel_l (zip2 ltb a b) a b)
    → All (λ unit. limit ≤ unit) a × All (λ unit. limit ≤ unit) b
least-both limit [] [] same all = (All-nil (λ unit. limit ≤ unit), All-nil (λ unit. limit ≤ unit))
least-both limit (x ∷ a) (y ∷ b) same all =
    let P : ℕ → Type 0 = λ unit. limit ≤ unit in
    let here = All-head P (cond (ltb x y) x y) (sel_l (zip2 ltb a b) a b) all in
    let rest = least-both limit a b (omega (arith, same)) (All-tail P (cond (ltb x y) x y) (sel_l (zip2 ltb a b) a b) all) in
    let two : (limit ≤ x) × (limit ≤ y) = ⊎_elim
    (λ (lt : x < y). let one : limit ≤ x = subst (λ c. limit ≤ cond c x y) (lt-ltb x y lt) here in (one, omega (arith, one, lt)))
    (λ (le : y ≤ x). let one : limit ≤ y = subst (λ c. limit ≤ cond c x y) (le-ltb x y le) here in (omega (arith, one, le), one))
    (cases_lt x y) in
    (All-cons P x a two.0 rest.0, All-cons P y b two.1 rest.1)
least-both limit a b same all = absurd (omega (arith, same))

pub compared : (a b c d : List ℕ) → sel_l (map (top 15) (zip2 (λ (x y : ℕ). cond (ltb x y) (2 ^ 16 - 1) 0) a b)) c d ≡ sel_l (zip2 ltb a b) c d
compared a b c d = ap (λ flags. sel_l flags c d) (tops_compared w16 ltb a b)

-- ---- comparisons with a limit, by a bit for each lane

pub from_by_bits : (n limit : ℕ) (units : List ℕ) → length units ≡ n → n ≤ 64
    → mask_l (map (top 15) (zip2 (λ (a b : ℕ). cond (ltb a b) (2 ^ 16 - 1) 0) units (replicate n limit))) % 2 ^ 64 ≡ 0 → All (λ unit. limit ≤ unit) units
from_by_bits n limit units long few none =
    All-weaker (λ unit. ltb unit limit ≡ false) (λ unit. limit ≤ unit) (λ unit. ltb-false unit limit) units
    (none_set (λ unit. ltb unit limit) units (sym (bitmask_splat w16 ltb units n limit long few) ∙ none))

-- ---- surrogates

pub from_surrogates-lanes : (units : List ℕ) → length units ≡ 16 → zip2 (λ (a b : ℕ). (a + (2 ^ 16 - b)) % 2 ^ 16) units (replicate 16 0xD800) ≡ map from_surrogates units
from_surrogates-lanes units long = zip2_splat (λ (a b : ℕ). (a + (2 ^ 16 - b)) % 2 ^ 16) units 16 0xD800 long

pub lows-basic : (units : List ℕ) → All (λ unit. unit < 0xFFFF) units → All (λ unit. 0x800 ≤ unit) (map from_surrogates units) → All IsBasicLow units
lows-basic [] below past = All-nil IsBasicLow
lows-basic (u ∷ units) below past =
    let far = All-tail (λ unit. 0x800 ≤ unit) (from_surrogates u) (map from_surrogates units) past in
    let rest = lows-basic units (All-tail (λ unit. unit < 0xFFFF) u units below) far in
    grind (arith, All-head, All-cons, All-tail, rest)
