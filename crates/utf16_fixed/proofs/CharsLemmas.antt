-- Characters of one or two units of UTF-16, written as two units of which the first or both count.
use Rattle.std.proofs.lemmas.Bool.Decides.{nat_tests}
use Rattle.std.proofs.Common.{All, ◌≡◌, ℕ, ◌+◌, ◌-◌, ◌/◌, ◌%◌, ◌^◌, ◌<◌, ◌==◌, Bool, true, false, cond, List, [], ◌∷◌, ◌++◌, flat_map, length, ltb, lt-ltb, le-ltb, map, replicate, append-nil, append_assoc, refl, sym, ap, ap₂, ◌∙◌, subst, arith, w16, w32}
use Rattle.std.proofs.lemmas.Bool.{cases_lt}
use Rattle.std.proofs.lemmas.List.{length-map}
use Rattle.std.proofs.lemmas.List.Elements.{All-head, All-tail}
use Rattle.std.proofs.lemmas.Simd.{mask_l-lt, mask_l-mod, tops_compared, zip2_splat_left}
use Rattle.std.specs.Char.{IsScalar}
use lib.Lanes.{mask_l, sel_l, top, zip2}
use Rattle.std.proofs.str.Utf16.{two_units}
use Rattle.utf16_units.specs.Encoding.{encode}
use Rattle.utf16_units.specs.Unit.{unit_bytes}
use Rattle.utf16_units.proofs.CharLemmas.{no_surrogate, one_unit_bytes}
use Rattle.utf16_units.proofs.EncodingLemmas.{encode-cons, encode-nil}
use Rattle.utf16_from_utf8.specs.Lanes.{kept_pairs}
use Rattle.utf16_fixed.specs.Pairs.{char_lane, halved, kept_lane}
use Rattle.utf16_fixed.specs.Utf32.{above}

-- ---- lanes chosen

-- by a test of the lanes themselves
pub chosen : (p : ℕ → Bool) (f g : ℕ → ℕ) (v : List ℕ) → sel_l (map p v) (map f v) (map g v) ≡ map (λ x. cond (p x) (f x) (g x)) v
chosen p f g [] = refl
chosen p f g (x ∷ v) = ap₂ (λ y ys. y ∷ ys) (refl {a = cond (p x) (f x) (g x)}) (chosen p f g v)

pub chosen-above : (v : List ℕ) (n limit : ℕ) (f g : ℕ → ℕ) → length v ≡ n
    → sel_l (map (top 31) (zip2 (λ (a b : ℕ). cond (ltb a b) (2 ^ 32 - 1) 0) (replicate n limit) v)) (map f v) (map g v) ≡ map (λ x. cond (above limit x) (f x) (g x)) v
chosen-above v n limit f g long = ap (λ ms. sel_l ms (map f v) (map g v)) (tops_compared w32 ltb (replicate n limit) v ∙ zip2_splat_left ltb limit n v long) ∙ chosen (above limit) f g v

-- halves that are not zero
pub set-halves : (units : List ℕ) → length units ≡ 16
    → mask_l (map (top 15) (zip2 (λ (a b : ℕ). cond (ltb a b) (2 ^ 16 - 1) 0) (replicate 16 0) units)) % 2 ^ 64 ≡ mask_l (map (above 0) units)
set-halves units long =
    ap (λ ms. mask_l ms % 2 ^ 64) (tops_compared w16 ltb (replicate 16 0) units ∙ zip2_splat_left ltb 0 16 units long)
    ∙ mask_l-mod (map (above 0) units) 64 (omega (arith, long, length-map units (above 0)))

pub few-halves : (units : List ℕ) → length units ≡ 16 → mask_l (map (above 0) units) < 2 ^ 16
few-halves units long = subst (λ k. mask_l (map (above 0) units) < 2 ^ k) (length-map units (above 0) ∙ long) (mask_l-lt (map (above 0) units))

pub length-halved : (lanes : List ℕ) → length (halved lanes) ≡ length lanes + length lanes
unfolding halved
length-halved [] = refl
length-halved (lane ∷ lanes) = omega (arith, length-halved lanes)

-- ---- units kept

-- two units, of which the first two bits say which are kept
two-kept : (big : Bool) (a b bits : ℕ) (more : List ℕ)
    → kept_pairs bits (unit_bytes big a ++ (unit_bytes big b ++ more)) ≡ cond (bits % 2 == 1) (unit_bytes big a) [] ++ (cond (bits / 2 % 2 == 1) (unit_bytes big b) [] ++ kept_pairs (bits / 2 / 2) more)
two-kept true a b bits more = refl
two-kept false a b bits more = refl

kept-by : (big : Bool) (a b bits first second rest : ℕ) (more : List ℕ) → bits % 2 ≡ first → bits / 2 % 2 ≡ second → bits / 2 / 2 ≡ rest
    → kept_pairs bits (unit_bytes big a ++ (unit_bytes big b ++ more)) ≡ cond (first == 1) (unit_bytes big a) [] ++ (cond (second == 1) (unit_bytes big b) [] ++ kept_pairs rest more)
kept-by big a b bits first second rest more e f g = grind (arith, two-kept)

abbrev pub bits_of : List ℕ → ℕ
bits_of cs = mask_l (map (above 0) (halved (map kept_lane cs)))

abbrev pub bytes_of : Bool → List ℕ → List ℕ
bytes_of big cs = flat_map (unit_bytes big) (halved (map char_lane cs))

-- the units of characters that are kept are their UTF-16
pub kept-chars : (big : Bool) (cs : List ℕ) → All IsScalar cs → kept_pairs (bits_of cs) (bytes_of big cs) ≡ encode big cs
unfolding halved
kept-chars big [] scalars = sym (encode-nil big)
kept-chars big (c ∷ cs) scalars =
    let rest = kept-chars big cs (All-tail IsScalar c cs scalars) in
    grind (arith, no_surrogate, All-head, lt-ltb, kept-by, All-tail, encode-cons, le-ltb, one_unit_bytes, cases_lt, nat_tests, two_units, append_assoc, append-nil, rest)
