-- Characters of one unit of UTF-16 each, written block by block.
use Rattle.std.proofs.Common.{◌≡◌, ℕ, ◌≢◌, ◌+◌, ◌*◌, ◌/◌, ◌≤◌, Bool, true, false, Fits, w16, List, [], ◌∷◌, ◌++◌, All, map, length, take, drop, flat_map, refl, sym, ap, ap₂, ◌∙◌, subst, arith, take-take}
use Rattle.std.proofs.Math.Seq.{take-add}
use Rattle.std.proofs.lemmas.Grind.{flat_map-append}
use Rattle.std.proofs.lemmas.List.{take-map}
use Rattle.std.proofs.lemmas.List.Elements.{All-append, All-cons, All-nil, All-take, All-weaker}
use Rattle.std.specs.Char.{IsScalar}
use lib.Lanes.{Each1, digits_l, number_l}
use Rattle.utf16_units.specs.Encoding.{units_of}
use Rattle.utf16_units.specs.Unit.{unit_bytes}
use Rattle.utf16_units.proofs.BlockUnits.{bytes-written}
use Rattle.utf16_fixed.specs.Progress.{IsBasicLow, IsNarrowed, low_unit}
use Rattle.utf16_fixed.specs.Utf32.{AreBasic, TranscodesFromUtf32}
use Rattle.utf16_fixed.proofs.LaneLemmas.{AreBasic-lows, AreBasic-of, low-all}
use Rattle.utf16_fixed.proofs.PlainLemmas.{IsNoSurrogate-of, take-after}
use Rattle.utf16_fixed.proofs.TextLemmas.{Encodes-basic, IsUnit, units_bytes-front}

AreBasic-append : (front back : List ℕ) → AreBasic front → AreBasic back → AreBasic (front ++ back)
AreBasic-append front back one two = record { valid = All-append IsScalar front back one.valid two.valid; low = All-append IsUnit front back one.low two.low }

pub AreBasic-take : (n : ℕ) (units : List ℕ) → AreBasic units → AreBasic (take n units)
AreBasic-take n units basic = record { valid = All-take IsScalar n units basic.valid; low = All-take IsUnit n units basic.low }

pub IsNarrowed-none : (big : Bool) (units old : List ℕ) → IsNarrowed big units old 0
IsNarrowed-none big units old = grind (arith, All-nil)

-- the bytes of the first units
bytes-front : (big : Bool) (n : ℕ) (units : List ℕ) → take (2 * n) (flat_map (unit_bytes big) units) ≡ flat_map (unit_bytes big) (take n units)
bytes-front big n units =
    let two : 2 * n ≡ n + n = omega arith in
    ap (λ k. take k (flat_map (unit_bytes big) units)) two ∙ units_bytes-front big n units

-- the low units of the first units of a block
pub lows-front : (m n : ℕ) (units : List ℕ) → m ≤ n → AreBasic (take m (take n units)) → (take m (map low_unit (take n units)) ≡ take m units) × AreBasic (take m units)
lows-front m n units few basic = grind (arith, take-take, All-weaker, take-map, low-all)

-- the bytes of units, read in an order as the bytes of little endian
in_order-bytes : (big : Bool) (units : List ℕ) → Each1 (Fits w16) units
    → flat_map (unit_bytes false) (units_of big (flat_map (unit_bytes false) units)) ≡ flat_map (unit_bytes big) units
unfolding units_of
in_order-bytes big [] fit = refl
in_order-bytes true (u ∷ units) fit = grind (arith, in_order-bytes true units fit.1)
in_order-bytes false (u ∷ units) fit = grind (arith, in_order-bytes false units fit.1)

in_order-fit : (big : Bool) (units : List ℕ) → Each1 (Fits w16) units → Each1 (Fits w16) (units_of big (flat_map (unit_bytes false) units))
unfolding units_of
in_order-fit big [] fit = tt
in_order-fit true (u ∷ units) fit = let below = fit.0.fits in (record { fits = omega (arith, below) }, in_order-fit true units fit.1)
in_order-fit false (u ∷ units) fit = let below = fit.0.fits in (record { fits = omega (arith, below) }, in_order-fit false units fit.1)

module _ (big : Bool) (units read : List ℕ) (long : length units ≡ 8) (fit : Each1 (Fits w16) units) (eight : length read ≡ 8) (are : read ≡ units_of big (digits_l 256 16 (number_l 65536 units))) where
  pub bytes8-are : digits_l 256 16 (number_l 65536 read) ≡ flat_map (unit_bytes big) units
  bytes8-are =
      let is = are ∙ ap (units_of big) (bytes-written false 8 units long fit) in
      bytes-written false 8 read eight (subst (Each1 (Fits w16)) (sym is) (in_order-fit big units fit)) ∙ ap (flat_map (unit_bytes false)) is ∙ in_order-bytes big units fit

-- a unit by itself
pub one-basic : (unit : ℕ) → unit ≤ 0xFFFF → unit / 0x800 ≢ 0x1B → AreBasic (unit ∷ [])
one-basic unit le none = grind (arith, AreBasic-of, All-cons, All-nil, IsNoSurrogate-of)

module _ (big : Bool) (units old : List ℕ) (at : ℕ) (done : IsNarrowed big units old at) where
  -- the first m of n more units
  pub IsNarrowed-more : (m n : ℕ) (new lanes : List ℕ) → m ≤ n → at + n ≤ length units → 2 * at + 2 * n ≤ length new
      → take m lanes ≡ take m (drop at units) → AreBasic (take m (drop at units)) → take (2 * at + 2 * n) new ≡ take (2 * at) old ++ flat_map (unit_bytes big) lanes
      → IsNarrowed big units new (at + m)
  IsNarrowed-more m n new lanes few within fits are basic wrote =
      let on : 2 * (at + m) ≡ 2 * at + 2 * m = omega arith in
      let front = take at units in
      let next = take m (drop at units) in
      let both = take-add at m units in
      record {
        within = omega (arith, within, few);
        fits = omega (arith, fits, few);
        basic = subst AreBasic (sym both) (AreBasic-append front next done.basic basic);
        wrote =
            ap (λ k. take k new) on ∙ sym (take-take (2 * at + 2 * m) (2 * at + 2 * n) new (omega (arith, few))) ∙ ap (take (2 * at + 2 * m)) wrote
            ∙ take-after (2 * at) (2 * m) old (flat_map (unit_bytes big) lanes) done.fits
            ∙ ap₂ (λ x y. x ++ y) done.wrote (bytes-front big m lanes ∙ ap (flat_map (unit_bytes big)) are)
            ∙ sym (flat_map-append (unit_bytes big) front next) ∙ ap (flat_map (unit_bytes big)) (sym both);
      }

  -- a block of which each low unit is of a character of one unit
  pub IsNarrowed-block : (n : ℕ) (new lanes : List ℕ) → at + n ≤ length units → 2 * at + 2 * n ≤ length new → lanes ≡ map low_unit (take n (drop at units)) → All IsBasicLow lanes
      → take (2 * at + 2 * n) new ≡ take (2 * at) old ++ flat_map (unit_bytes big) lanes → IsNarrowed big units new (at + n)
  IsNarrowed-block n new lanes within fits are lows wrote =
      let block = take n (drop at units) in
      let basic = AreBasic-lows block (subst (All IsBasicLow) are lows) in
      IsNarrowed-more n n new lanes (omega arith) within fits (ap (take n) (are ∙ basic.0) ∙ take-take n n (drop at units) (omega arith)) basic.1 wrote

  -- fewer units
  pub IsNarrowed-fewer : (m : ℕ) → m ≤ at → IsNarrowed big units old m
  IsNarrowed-fewer m fewer =
      let same = take-take m at units fewer in
      record {
        within = omega (arith, done.within, fewer);
        fits = omega (arith, done.fits, fewer);
        basic = subst AreBasic same (AreBasic-take m (take at units) done.basic);
        wrote =
            sym (take-take (2 * m) (2 * at) old (omega (arith, fewer))) ∙ ap (take (2 * m)) done.wrote ∙ bytes-front big m (take at units)
            ∙ ap (flat_map (unit_bytes big)) same;
      }

  -- the bytes encode the text
  pub narrowed-text : TranscodesFromUtf32 big (take at units) (take (2 * at) old)
  narrowed-text = subst (TranscodesFromUtf32 big (take at units)) (sym done.wrote) (Encodes-basic big (take at units) done.basic)
