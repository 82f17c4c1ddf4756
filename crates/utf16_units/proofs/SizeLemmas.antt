-- How many units the characters have that begin in bytes of UTF-8.
use Rattle.std.proofs.Common.{◌≡◌, ℕ, suc, zero, ◌+◌, ◌-◌, ◌*◌, ◌/◌, ◌%◌, ◌^◌, ◌<◌, ◌≤◌, ◌⊎◌, Bool, true, false, not, cond, eqb, eq-eqb, eqb-true, List, [], ◌∷◌, ◌++◌, All, map, length, take, drop, replicate, bit_and, count_by, count_ones, encode_utf8_all, flat_map, refl, sym, ap, ap₂, subst, ◌∙◌, ⊎_elim, inl, inr, arith, drop-drop, length-append, length-drop, take_all, w8}
use Rattle.std.proofs.lemmas.Bool.{cases_lt, false_from_ne_true}
use Rattle.std.proofs.lemmas.List.{drop-map, length-map}
use Rattle.std.proofs.lemmas.List.Elements.{All-head, All-tail}
use Rattle.std.proofs.lemmas.List.Sums.{count_by-le-length, sum_by-append, sum_by-cons}
use Rattle.std.proofs.Math.Nat.{div-div-eq-div-mul, two-pow-succ, zero-div}
use Rattle.std.proofs.lemmas.Nat.Bits.{and_high}
use Rattle.std.proofs.lemmas.Simd.{bitmask_splat, chunk-drop, map-map, ones-mask_l, zip2_splat}
use Rattle.std.proofs.lemmas.Str.{encodes-chars, scalars-chars}
use Rattle.std.proofs.str.Utf16.{one_unit, two_units}
use Rattle.std.specs.Char.{IsScalar}
use Rattle.std.specs.Char.Escape.{encode_utf16}
use Rattle.std.specs.Str.{IsUtf8, chars}
use lib.Lanes.{chunk, mask_l, top, zip2}
use lib.Utf8.{encode}
use Rattle.utf16_units.specs.Encoding.{size}
use Rattle.utf16_units.specs.Sizes.{begins_char, begins_four, units_begun}
use Rattle.utf16_units.proofs.CharLemmas.{char_size-le, no_surrogate}
use Rattle.utf16_units.proofs.EncodingLemmas.{All-from_all_scalars, size-cons, size-nil}
use Rattle.utf16_units.proofs.Utf8Lemmas.{four_bytes, one_byte, three_bytes, two_bytes}

-- ---- one byte, by its class

abbrev bit : Bool → ℕ
bit b = cond b 1 0

begun-cons : (byte : ℕ) (more : List ℕ) → units_begun (byte ∷ more) ≡ bit (begins_char byte) + bit (begins_four byte) + units_begun more
begun-cons byte more = omega (arith, sum_by-cons (λ b. bit (begins_char b)) byte more, sum_by-cons (λ b. bit (begins_four b)) byte more)

begins-no : (byte : ℕ) → 0x80 ≤ byte → byte < 0xC0 → begins_char byte ≡ false
begins-no byte from below =
    let upper : bit_and byte 0xC0 ≡ byte / 64 % 4 * 64 = and_high byte 2 6 in
    ap not (eq-eqb (bit_and byte 0xC0) 0x80 (omega (arith, upper)))

begins-yes : (byte : ℕ) → byte < 256 → (byte < 0x80) ⊎ (0xC0 ≤ byte) → begins_char byte ≡ true
begins-yes byte small either =
    let upper : bit_and byte 0xC0 ≡ byte / 64 % 4 * 64 = and_high byte 2 6 in
    ap not (false_from_ne_true (eqb (bit_and byte 0xC0) 0x80) (λ e.
    let is = eqb-true _ _ e in
    ⊎_elim (λ (low : byte < 0x80). omega (arith, upper, is, low)) (λ (high : 0xC0 ≤ byte). omega (arith, upper, is, high, small)) either))

four-no : (byte : ℕ) → byte < 0xF0 → begins_four byte ≡ false
four-no byte below =
    let upper : bit_and byte 0xF0 ≡ byte / 16 % 16 * 16 = and_high byte 4 4 in
    false_from_ne_true (eqb (bit_and byte 0xF0) 0xF0) (λ e. let is = eqb-true _ _ e in omega (arith, upper, is, below))

four-yes : (byte : ℕ) → byte < 256 → 0xF0 ≤ byte → begins_four byte ≡ true
four-yes byte small from =
    let upper : bit_and byte 0xF0 ≡ byte / 16 % 16 * 16 = and_high byte 4 4 in
    eq-eqb (bit_and byte 0xF0) 0xF0 (omega (arith, upper))

begun-continuation : (byte : ℕ) (more : List ℕ) → 0x80 ≤ byte → byte < 0xC0 → units_begun (byte ∷ more) ≡ units_begun more
begun-continuation byte more a b =
    let no = ap bit (begins-no byte a b) in
    let four = ap bit (four-no byte (omega arith)) in
    omega (arith, begun-cons byte more, no, four)

begun-first : (byte : ℕ) (more : List ℕ) → byte < 0xF0 → (byte < 0x80) ⊎ (0xC0 ≤ byte) → units_begun (byte ∷ more) ≡ 1 + units_begun more
begun-first byte more a either =
    let yes = ap bit (begins-yes byte (omega arith) either) in
    let four = ap bit (four-no byte a) in
    omega (arith, begun-cons byte more, yes, four)

begun-four : (byte : ℕ) (more : List ℕ) → byte < 256 → 0xF0 ≤ byte → units_begun (byte ∷ more) ≡ 2 + units_begun more
begun-four byte more small from =
    let far : 0xC0 ≤ byte = omega arith in
    let yes = ap bit (begins-yes byte small (inr far)) in
    let four = ap bit (four-yes byte small from) in
    omega (arith, begun-cons byte more, yes, four)

-- ---- a text

begun-char : (c : ℕ) (more : List ℕ) → IsScalar c → units_begun (encode c ++ more) ≡ length (encode_utf16 c) + units_begun more
begun-char c more scalar = ⊎_elim
    (λ (one : c < 0x80).
    let units = ap length (one_unit c (omega arith)) in
    ap (λ bytes. units_begun (bytes ++ more)) (one_byte c one) ∙ omega (arith, begun-first c more (omega arith) (inl one), units))
    (λ (a : 0x80 ≤ c). ⊎_elim
    (λ (two : c < 0x800).
    let x = 192 + c / 64 in
    let y = 128 + c % 64 in
    let units = ap length (one_unit c (omega arith)) in
    let first : 0xC0 ≤ x = omega arith in
    ap (λ bytes. units_begun (bytes ++ more)) (two_bytes c a two)
    ∙ omega (arith, begun-first x (y ∷ more) (omega arith) (inr first), begun-continuation y more (omega arith) (omega arith), units))
    (λ (b : 0x800 ≤ c). ⊎_elim
    (λ (three : c < 0x1_0000).
    let x = 224 + c / 4096 in
    let y = 128 + c / 64 % 64 in
    let z = 128 + c % 64 in
    let units = ap length (one_unit c three) in
    let first : 0xC0 ≤ x = omega arith in
    ap (λ bytes. units_begun (bytes ++ more)) (three_bytes c b three)
    ∙ omega (arith, begun-first x (y ∷ z ∷ more) (omega arith) (inr first), begun-continuation y (z ∷ more) (omega arith) (omega arith), begun-continuation z more (omega arith) (omega arith), units))
    (λ (four : 0x1_0000 ≤ c).
    let x = 240 + c / 262144 in
    let y = 128 + c / 4096 % 64 in
    let z = 128 + c / 64 % 64 in
    let w = 128 + c % 64 in
    let top : c < 0x11_0000 = ⊎_elim (λ (low : c < 0xD800). omega arith) (λ (high : (0xE000 ≤ c) × (c < 0x11_0000)). high.1) (no_surrogate c scalar) in
    let units = ap length (two_units c four) in
    ap (λ bytes. units_begun (bytes ++ more)) (four_bytes c four)
    ∙ omega (arith, begun-four x (y ∷ z ∷ w ∷ more) (omega arith) (omega arith), begun-continuation y (z ∷ w ∷ more) (omega arith) (omega arith), begun-continuation z (w ∷ more) (omega arith) (omega arith), begun-continuation w more (omega arith) (omega arith), units))
    (cases_lt c 0x1_0000))
    (cases_lt c 0x800))
    (cases_lt c 0x80)

begun-text : (text : List ℕ) → All IsScalar text → units_begun (encode_utf8_all text) ≡ length (flat_map encode_utf16 text)
begun-text [] scalars = refl
begun-text (c ∷ text) scalars =
    begun-char c (encode_utf8_all text) (All-head IsScalar c text scalars)
    ∙ ap (λ n. length (encode_utf16 c) + n) (begun-text text (All-tail IsScalar c text scalars))
    ∙ sym (length-append (encode_utf16 c) (flat_map encode_utf16 text))

pub scalars-of : (bytes : List ℕ) → IsUtf8 bytes → All IsScalar (chars bytes)
scalars-of bytes utf8 = All-from_all_scalars (chars bytes) (scalars-chars bytes utf8)

pub begun-size : (bytes : List ℕ) → IsUtf8 bytes → 2 * units_begun bytes ≡ size (chars bytes)
unfolding size
begun-size bytes utf8 = ap (λ n. 2 * n) (ap units_begun (sym (encodes-chars bytes utf8)) ∙ begun-text (chars bytes) (scalars-of bytes utf8))

size-le-encodes : (text : List ℕ) → size text ≤ 2 * length (encode_utf8_all text)
size-le-encodes [] = omega (arith, size-nil)
size-le-encodes (c ∷ text) =
    omega (arith, size-cons c text, char_size-le c, size-le-encodes text, length-append (encode c) (encode_utf8_all text))

-- a text takes at most twice as many bytes as its UTF-8
pub size-le : (bytes : List ℕ) → IsUtf8 bytes → size (chars bytes) ≤ 2 * length bytes
size-le bytes utf8 = subst (λ t. size (chars bytes) ≤ 2 * length t) (encodes-chars bytes utf8) (size-le-encodes (chars bytes))

-- ---- the steps of the count

pub begun-append : (xs ys : List ℕ) → units_begun (xs ++ ys) ≡ units_begun xs + units_begun ys
begun-append xs ys = omega (arith, sum_by-append (λ b. bit (begins_char b)) xs ys, sum_by-append (λ b. bit (begins_four b)) xs ys)

pub begun-le : (xs : List ℕ) → units_begun xs ≤ 2 * length xs
begun-le xs = omega (arith, count_by-le-length begins_char xs, count_by-le-length begins_four xs)

-- the count continues by n bytes
pub begun-step : (bytes : List ℕ) (at n units more : ℕ) → units + units_begun (drop at bytes) ≡ units_begun bytes → more ≡ units_begun (take n (drop at bytes))
    → units + more + units_begun (drop (at + n) bytes) ≡ units_begun bytes
begun-step bytes at n units more e is =
    let split = ap units_begun (chunk-drop at n bytes) in
    omega (arith, split, begun-append (take n (drop at bytes)) (drop (at + n) bytes), is, e)

-- ---- a block by its bits

pub char-bits : (n : ℕ) (block : List ℕ) → n ≤ 64 → length block ≡ n
    → mask_l (map (top 7) (zip2 (λ a b. cond (not (eqb a b)) 255 0) (zip2 bit_and block (replicate n 0xC0)) (replicate n 0x80))) % 2 ^ 64 ≡ mask_l (map begins_char block)
char-bits n block few long =
    let masked = zip2_splat bit_and block n 0xC0 long in
    bitmask_splat w8 (λ (a b : ℕ). not (eqb a b)) (zip2 bit_and block (replicate n 0xC0)) n 0x80 (ap length masked ∙ length-map block (λ b. bit_and b 0xC0) ∙ long) few
    ∙ ap (λ bs. mask_l (map (λ b. not (eqb b 0x80)) bs)) masked
    ∙ ap mask_l (map-map (λ b. not (eqb b 0x80)) (λ b. bit_and b 0xC0) block)

pub four-bits : (n : ℕ) (block : List ℕ) → n ≤ 64 → length block ≡ n
    → mask_l (map (top 7) (zip2 (λ a b. cond (eqb a b) 255 0) (zip2 bit_and block (replicate n 0xF0)) (replicate n 0xF0))) % 2 ^ 64 ≡ mask_l (map begins_four block)
four-bits n block few long =
    let masked = zip2_splat bit_and block n 0xF0 long in
    bitmask_splat w8 eqb (zip2 bit_and block (replicate n 0xF0)) n 0xF0 (ap length masked ∙ length-map block (λ b. bit_and b 0xF0) ∙ long) few
    ∙ ap (λ bs. mask_l (map (λ b. eqb b 0xF0) bs)) masked
    ∙ ap mask_l (map-map (λ b. eqb b 0xF0) (λ b. bit_and b 0xF0) block)

-- shifting out the lowest bits leaves the bits of the flags after them
mask-drop : (n : ℕ) (flags : List Bool) → mask_l flags / 2 ^ n ≡ mask_l (drop n flags)
mask-drop zero flags = omega arith
mask-drop (suc n) [] = zero-div (2 ^ suc n)
mask-drop (suc n) (flag ∷ flags) =
    let bits = mask_l (flag ∷ flags) in
    ap (λ d. bits / d) (omega (arith, two-pow-succ n)) ∙ sym (div-div-eq-div-mul bits 2 (2 ^ n)) ∙ ap (λ k. k / 2 ^ n) (halved flag) ∙ mask-drop n flags
  where
    halved : (f : Bool) → (cond f 1 0 + 2 * mask_l flags) / 2 ≡ mask_l flags
    halved true = omega arith
    halved false = omega arith

pub ones-begun : (n : ℕ) (block : List ℕ) (chars' fours : ℕ) → chars' ≡ mask_l (map begins_char block) → fours ≡ mask_l (map begins_four block)
    → count_ones (chars' / 2 ^ n) + count_ones (fours / 2 ^ n) ≡ units_begun (drop n block)
ones-begun n block chars' fours a b = ap₂ (λ m n. m + n) (ones begins_char chars' a) (ones begins_four fours b)
  where
    ones : (p : ℕ → Bool) (bits : ℕ) → bits ≡ mask_l (map p block) → count_ones (bits / 2 ^ n) ≡ count_by p (drop n block)
    ones p bits is =
        ap count_ones (ap (λ m. m / 2 ^ n) is ∙ mask-drop n (map p block) ∙ ap mask_l (drop-map p n block)) ∙ ones-mask_l p (drop n block)

-- the bytes after an offset are at the end of the last block
pub begun-last : (bytes : List ℕ) (at : ℕ) → 16 ≤ length bytes → at ≤ length bytes → length bytes < at + 16
    → units_begun (drop (16 - (length bytes - at)) (chunk (length bytes - 16) 16 bytes)) ≡ units_begun (drop at bytes)
begun-last bytes at many within near =
    let first = length bytes - 16 in
    let skip = 16 - (length bytes - at) in
    let rest = drop first bytes in
    let last : chunk first 16 bytes ≡ rest = take_all 16 rest (omega (arith, length-drop first bytes, many)) in
    let here : first + skip ≡ at = omega (arith, many, within, near) in
    ap units_begun (ap (drop skip) last ∙ drop-drop skip first bytes ∙ ap (λ n. drop n bytes) here)
