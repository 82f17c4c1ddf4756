-- The units and the bytes of one character.
use Rattle.std.proofs.Common.{◌≡◌, ℕ, ◌+◌, ◌-◌, ◌*◌, ◌/◌, ◌%◌, ◌<◌, ◌≤◌, ◌⊎◌, Bool, List, ◌∷◌, ◌++◌, length, get_or, Some, ap, append-nil, flat_map, ◌∙◌, ⊎_elim, inl, inr, arith}
use Rattle.std.proofs.lemmas.Bool.{cases_lt}
use Rattle.std.proofs.Math.Utf8.{scalar_cases}
use Rattle.std.proofs.lemmas.Str.{len_utf8_bounds, length-encode, utf16_chars_lone, utf16_chars_pair}
use Rattle.std.proofs.str.Utf16.{IsPair, one_unit, two_units, lone_unit_char_low, lone_unit_char_high}
use Rattle.std.specs.Char.{IsScalar, encode_utf8, len_utf8}
use Rattle.std.specs.Char.Escape.{encode_utf16}
use Rattle.std.specs.Char.Utf16.{utf16_chars, lone_unit_char, surrogate_pair_char}
use Rattle.utf16_units.specs.Encoding.{char_bytes, char_size}
use Rattle.utf16_units.specs.Unit.{unit_bytes}
use Rattle.utf16_units.proofs.UnitLemmas.{length-units_bytes}

-- a character is not a surrogate
pub no_surrogate : (c : ℕ) → IsScalar c → (c < 0xD800) ⊎ ((0xE000 ≤ c) × (c < 0x11_0000))
no_surrogate c scalar = scalar_cases c scalar

lone_char : (c : ℕ) → IsScalar c → lone_unit_char c ≡ Some c
lone_char c scalar = ⊎_elim (λ low. lone_unit_char_low c low) (λ high. lone_unit_char_high c high.0) (no_surrogate c scalar)

-- the units of a character followed by others decode to that character and then theirs
pub utf16_chars-char : (c : ℕ) (units : List ℕ) → IsScalar c → utf16_chars (encode_utf16 c ++ units) ≡ Some c ∷ utf16_chars units
utf16_chars-char c units scalar =
    let cases = no_surrogate c scalar in
    ⊎_elim
    (λ (one : c < 0x1_0000).
    ap (λ us. utf16_chars (us ++ units)) (one_unit c one)
    ∙ utf16_chars_lone c units (λ (pair : IsPair c (get_or units 0 0)). ⊎_elim (λ (low : c < 0xD800). omega arith) (λ (high : (0xE000 ≤ c) × (c < 0x11_0000)). omega arith) cases)
    ∙ ap (λ o. o ∷ utf16_chars units) (lone_char c scalar))
    (λ (two : 0x1_0000 ≤ c).
    let lead = 0xD800 + (c - 0x1_0000) / 0x400 in
    let trail = 0xDC00 + (c - 0x1_0000) % 0x400 in
    let pair : IsPair lead trail = (omega arith, omega arith, omega arith, omega arith) in
    let same : surrogate_pair_char lead trail ≡ c = omega arith in
    ap (λ us. utf16_chars (us ++ units)) (two_units c two)
    ∙ utf16_chars_pair lead trail units pair
    ∙ ap (λ d. Some d ∷ utf16_chars units) same)
    (cases_lt c 0x1_0000)

-- a character below U+10000 has two bytes, and any other four
pub char_size_two : (c : ℕ) → c < 0x1_0000 → char_size c ≡ 2
char_size_two c one = ap (λ us. 2 * length us) (one_unit c one)

pub char_size_four : (c : ℕ) → 0x1_0000 ≤ c → char_size c ≡ 4
char_size_four c two = ap (λ us. 2 * length us) (two_units c two)

pub char_size_cases : (c : ℕ) → (char_size c ≡ 2) ⊎ (char_size c ≡ 4)
char_size_cases c = ⊎_elim (λ one. inl (char_size_two c one)) (λ two. inr (char_size_four c two)) (cases_lt c 0x1_0000)

-- a character takes at most twice as many bytes in UTF-16 as in UTF-8
pub char_size-le : (c : ℕ) → char_size c ≤ 2 * length (encode_utf8 c)
char_size-le c =
    let utf8 = length-encode c in
    let bounds = len_utf8_bounds c in
    ⊎_elim
    (λ (one : c < 0x1_0000). omega (arith, char_size_two c one))
    (λ (two : 0x1_0000 ≤ c).
    let four : len_utf8 c ≡ 4 = grind arith in
    omega (arith, char_size_four c two))
    (cases_lt c 0x1_0000)

pub length-char_bytes : (big : Bool) (c : ℕ) → length (char_bytes big c) ≡ char_size c
length-char_bytes big c = length-units_bytes big (encode_utf16 c)

-- the bytes of a character of one unit
pub one_unit_bytes : (big : Bool) (c : ℕ) → c < 0x1_0000 → char_bytes big c ≡ unit_bytes big c
one_unit_bytes big c one = ap (flat_map (unit_bytes big)) (one_unit c one) ∙ append-nil (unit_bytes big c)
