-- UTF-32 and UTF-16 of the same text: one after another, and blocks without a surrogate.
use Rattle.std.proofs.Common.{◌≡◌, ℕ, zero, suc, All, ◌+◌, ◌*◌, ◌<◌, ◌≤◌, Bool, true, false, List, [], ◌∷◌, ◌++◌, length, slice_index, take, refl, sym, ap, ap₂, ◌∙◌, subst, arith, Fits, w8, flat_map, length-take-le, take-take}
use Rattle.std.proofs.lemmas.List.Elements.{All-cons, All-head, All-nil, All-tail}
use Rattle.std.proofs.lemmas.Simd.{chunk-fits}
use Rattle.std.specs.Char.{IsScalar}
use lib.Lanes.{Each1}
use Rattle.utf16_units.specs.Encoding.{encode, Encodes, char_bytes, size, units_of}
use Rattle.utf16_units.specs.Lanes.{HasNoSurrogate, IsNoSurrogate}
use Rattle.utf16_units.specs.Unit.{unit_bytes}
use Rattle.utf16_units.proofs.BlockUnits.{bytes-units_of}
use Rattle.utf16_units.proofs.CharLemmas.{char_size_cases, one_unit_bytes}
use Rattle.utf16_units.proofs.EncodingLemmas.{Encodes-append, encode-cons, encode-nil, encode-one, size-cons, size-nil}
use Rattle.utf16_units.proofs.FirstChar.{scalar_unit}
use Rattle.utf16_units.proofs.PairLemmas.{is_not_of}
use Rattle.utf16_units.proofs.UnitsUpTo.{units_of-front}
use Rattle.utf16_transcode.specs.Transcoded.{Joins}
use Rattle.utf16_fixed.specs.Utf32.{AreBasic, TranscodesFromUtf32, TranscodesToUtf32, utf32_units}

pub utf32_joins : (big : Bool) → Joins (TranscodesToUtf32 big)
utf32_joins big front back into more first second = Encodes-append big into more front back first second

pub utf32_empty : (big : Bool) → TranscodesToUtf32 big [] []
utf32_empty big = record { scalars = All-nil IsScalar; spelled = encode-nil big }

pub utf32_char : (big : Bool) (c : ℕ) → IsScalar c → TranscodesToUtf32 big (char_bytes big c) (utf32_units c)
utf32_char big c scalar = record { scalars = All-cons IsScalar c [] scalar (All-nil IsScalar); spelled = encode-one big c }

-- ---- blocks without a surrogate

abbrev pub IsUnit : ℕ → Type 0
IsUnit unit = unit < 0x1_0000

-- units are less than 2^16
units-below : (big : Bool) (bytes : List ℕ) → Each1 (Fits w8) bytes → All IsUnit (units_of big bytes)
unfolding units_of
units-below big (x ∷ y ∷ bytes) fit = grind (arith, All-cons, units-below big bytes fit.1.1)
units-below big bytes fit = All-nil IsUnit

-- units that are not surrogates are a text, and its bytes are theirs
pub Encodes-plain : (big : Bool) (units : List ℕ) → All IsUnit units → HasNoSurrogate units → Encodes big units (flat_map (unit_bytes big) units)
Encodes-plain big [] below plain = record { scalars = All-nil IsScalar; spelled = encode-nil big }
Encodes-plain big (u ∷ units) below plain =
    let rest = Encodes-plain big units (All-tail IsUnit u units below) (All-tail IsNoSurrogate u units plain) in
    grind (arith, All-head, All-tail, All-cons, scalar_unit, is_not_of, encode-cons, one_unit_bytes, rest)

-- the first n units of the first 2 * m bytes, if they are not surrogates
pub Encodes-plain_front : (big : Bool) (raw : List ℕ) (m n : ℕ) → m ≤ length raw → 2 * n ≤ m → ((k : ℕ) → Fits w8 (slice_index raw k))
    → HasNoSurrogate (take n (units_of big (take m raw))) → Encodes big (take n (units_of big (take m raw))) (take (2 * n) raw)
Encodes-plain_front big raw m n within few fits plain =
    let front = take (2 * n) raw in
    let fit : Each1 (Fits w8) front = chunk-fits w8 0 (2 * n) raw fits in
    let long = length-take-le (2 * n) raw (omega (arith, within, few)) in
    let units : take n (units_of big (take m raw)) ≡ units_of big front =
    units_of-front big (take m raw) n (omega (arith, length-take-le m raw within)) ∙ ap (units_of big) (take-take (2 * n) m raw few) in
    subst (λ us. Encodes big us front) (sym units)
    (subst (Encodes big (units_of big front)) (bytes-units_of big n front (omega (arith, long)) fit)
    (Encodes-plain big (units_of big front) (units-below big front fit) (subst HasNoSurrogate units plain)))

-- ---- how many bytes a text takes

-- each character takes two bytes or more
pub size-least : (text : List ℕ) → 2 * length text ≤ size text
size-least [] = omega (arith, size-nil)
size-least (c ∷ text) = omega (arith, size-cons c text, size-least text, char_size_cases c)

-- or at most four
pub size-most : (text : List ℕ) → size text ≤ 4 * length text
size-most [] = omega (arith, size-nil)
size-most (c ∷ text) = omega (arith, size-cons c text, size-most text, char_size_cases c)

-- ---- the other direction

pub utf16_joins : (big : Bool) → Joins (TranscodesFromUtf32 big)
utf16_joins big front back into more first second = Encodes-append big front back into more first second

-- the first bytes of units are the bytes of the first units
pub units_bytes-front : (big : Bool) (n : ℕ) (units : List ℕ) → take (n + n) (flat_map (unit_bytes big) units) ≡ flat_map (unit_bytes big) (take n units)
units_bytes-front big zero units = refl
units_bytes-front big (suc n) [] =
    let two : suc n + suc n ≡ suc (suc (n + n)) = omega arith in
    ap (λ k. take k (flat_map (unit_bytes big) [])) two
units_bytes-front big (suc n) (u ∷ units) =
    let two : suc n + suc n ≡ suc (suc (n + n)) = omega arith in
    ap (λ k. take k (unit_bytes big u ++ flat_map (unit_bytes big) units)) two ∙ past big (flat_map (unit_bytes big) units)
    ∙ ap (λ t. unit_bytes big u ++ t) (units_bytes-front big n units)
  where
    past : (big : Bool) (bytes : List ℕ) → take (suc (suc (n + n))) (unit_bytes big u ++ bytes) ≡ unit_bytes big u ++ take (n + n) bytes
    past true bytes = refl
    past false bytes = refl

-- characters of one unit each
pub Encodes-basic : (big : Bool) (units : List ℕ) → AreBasic units → Encodes big units (flat_map (unit_bytes big) units)
Encodes-basic big units basic = record { scalars = basic.valid; spelled = spelled units basic.low } where
  spelled : (units : List ℕ) → All IsUnit units → encode big units ≡ flat_map (unit_bytes big) units
  spelled [] low = encode-nil big
  spelled (u ∷ units) low =
      encode-cons big u units ∙ ap₂ (λ x y. x ++ y) (one_unit_bytes big u (All-head IsUnit u units low)) (spelled units (All-tail IsUnit u units low))

-- the bytes of the first units of a block
pub block_bytes : (big : Bool) (raw : List ℕ) (m k : ℕ) → m ≤ length raw → 2 * k ≤ m → ((i : ℕ) → Fits w8 (slice_index raw i))
    → flat_map (unit_bytes big) (take k (units_of big (take m raw))) ≡ take (2 * k) raw
block_bytes big raw m k within few fits =
    ap (flat_map (unit_bytes big)) (units_of-front big (take m raw) k (omega (arith, few, length-take-le m raw within)) ∙ ap (units_of big) (take-take (2 * k) m raw few))
    ∙ bytes-units_of big k (take (2 * k) raw) (omega (arith, length-take-le (2 * k) raw (omega (arith, within, few)))) (chunk-fits w8 0 (2 * k) raw fits)
