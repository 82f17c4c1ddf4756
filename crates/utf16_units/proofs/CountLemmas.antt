-- Characters counted by their units: each has one that is not trailing.
use Rattle.std.proofs.Common.{◌≡◌, ◌↔◌, ℕ, ◌+◌, ◌-◌, ◌*◌, ◌/◌, ◌%◌, ◌<◌, ◌≤◌, Bool, true, false, cond, List, [], ◌∷◌, length, map, take, drop, slice_index, All, IsTrue, refl, sym, ap, ap₂, ◌∙◌, subst, ⊎_elim, arith, count_by, flat_map, length-append, length-take-le}
use Rattle.std.proofs.lemmas.Bool.{and_from, cases_lt, false_from_ne_true, false≢true, le-leb, lt-ltb}
use Rattle.std.proofs.lemmas.List.Elements.{All-head, All-tail}
use Rattle.std.proofs.lemmas.List.Sums.{count_by-le-length, sum_by-append}
use Rattle.std.proofs.lemmas.Simd.{ones-mask_l}
use Rattle.std.proofs.str.Utf16.{one_unit, two_units}
use Rattle.std.specs.Char.{IsScalar}
use Rattle.std.specs.Char.Escape.{encode_utf16}
use Rattle.std.specs.Char.Utf16.{is_low_surrogate}
use lib.Count.{ones}
use lib.Lanes.{mask_l}
use mir.Val.{bool_byte}
use Rattle.utf16_units.specs.Unit.{IsTrailing, unit_of}
use Rattle.utf16_units.specs.Encoding.{IsUtf16, size, text_of, units_of}
use Rattle.utf16_units.proofs.CharLemmas.{no_surrogate}
use Rattle.utf16_units.proofs.EncodingLemmas.{length-text, scalars-text_of}
use Rattle.utf16_units.proofs.PairLemmas.{is_of}
use Rattle.utf16_units.proofs.UnitsUpTo.{length-units_of, units_of-all, units_of-next, units_of-one, units_of-text}

is_low : (unit : ℕ) → IsTrailing unit → is_low_surrogate unit ≡ true
is_low unit t = and_from _ _ (le-leb 0xDC00 unit t.0) (lt-ltb unit 0xE000 (omega (arith, t.1)))

not_low : (unit : ℕ) → ¬ (IsTrailing unit) → is_low_surrogate unit ≡ false
not_low unit other = false_from_ne_true (is_low_surrogate unit) (λ e. other (is_of 55 unit e))

-- the trailing units up to an offset between units are counted
pub record CountedTo (big : Bool) (bytes : List ℕ) (at trailing : ℕ) : Type 0 where
  pub within : at ≤ length bytes
  pub even : at % 2 ≡ 0
  pub counted : trailing ≡ count_by is_low_surrogate (units_of big (take at bytes))

pub CountedTo-none : (big : Bool) (bytes : List ℕ) → CountedTo big bytes 0 0
unfolding units_of
CountedTo-none big bytes = record { within = omega arith; even = refl; counted = refl }

pub CountedTo-next : (big : Bool) (bytes : List ℕ) (at n trailing more : ℕ) → CountedTo big bytes at trailing → n % 2 ≡ 0 → at + n ≤ length bytes
    → more ≡ count_by is_low_surrogate (units_of big (take n (drop at bytes))) → CountedTo big bytes (at + n) (trailing + more)
CountedTo-next big bytes at n trailing more c even long is =
    let both = ap (count_by is_low_surrogate) (units_of-next big bytes at n c.even c.within)
    ∙ sum_by-append (λ u. cond (is_low_surrogate u) 1 0) (units_of big (take at bytes)) (units_of big (take n (drop at bytes))) in
    record { within = long; even = omega arith; counted = omega (arith, both, c.counted, is) }

-- they are at most half as many as the bytes, so the count does not overflow
pub CountedTo-few : (big : Bool) (bytes : List ℕ) (at trailing : ℕ) → CountedTo big bytes at trailing → 2 * trailing ≤ at
CountedTo-few big bytes at trailing c =
    omega (arith, c.counted, count_by-le-length is_low_surrogate (units_of big (take at bytes)), length-units_of big (take at bytes), length-take-le at bytes c.within)

pub CountedTo-all : (big : Bool) (bytes : List ℕ) (at trailing : ℕ) → CountedTo big bytes at trailing → length bytes < at + 2
    → trailing ≡ count_by is_low_surrogate (units_of big bytes)
CountedTo-all big bytes at trailing c few = c.counted ∙ sym (ap (count_by is_low_surrogate) (units_of-all big bytes at c.even c.within few))

-- a block counted by its bits, and a unit by its test
pub CountedTo-block : (big : Bool) (bytes : List ℕ) (at trailing bits : ℕ) → CountedTo big bytes at trailing → at + 64 ≤ length bytes
    → bits ≡ mask_l (map is_low_surrogate (units_of big (take 64 (drop at bytes)))) → CountedTo big bytes (at + 64) (trailing + ones bits)
CountedTo-block big bytes at trailing bits c long is =
    CountedTo-next big bytes at 64 trailing (ones bits) c refl long (ap ones is ∙ ones-mask_l is_low_surrogate (units_of big (take 64 (drop at bytes))))

low_by_test : (b : Bool) (unit : ℕ) → (IsTrue b ↔ IsTrailing unit) → b ≡ is_low_surrogate unit
low_by_test true unit iff = sym (is_low unit (iff.0 refl))
low_by_test false unit iff = sym (not_low unit (λ t. false≢true (iff.1 t)))

bit-cond : (b : Bool) → bool_byte b ≡ 0 + cond b 1 0
bit-cond true = refl
bit-cond false = refl

pub CountedTo-unit : (big : Bool) (bytes : List ℕ) (at trailing : ℕ) (b : Bool) → CountedTo big bytes at trailing → at + 2 ≤ length bytes
    → (IsTrue b ↔ IsTrailing (unit_of big (slice_index bytes at) (slice_index bytes (at + 1)))) → CountedTo big bytes (at + 2) (trailing + bool_byte b)
CountedTo-unit big bytes at trailing b c long iff =
    let unit = unit_of big (slice_index bytes at) (slice_index bytes (at + 1)) in
    CountedTo-next big bytes at 2 trailing (bool_byte b) c refl long
    (bit-cond b ∙ ap (λ (low : Bool). 0 + cond low 1 0) (low_by_test b unit iff) ∙ sym (ap (count_by is_low_surrogate) (units_of-one big bytes at long)))

-- ---- the characters

-- all but one of a character's units are trailing
counted_char : (c : ℕ) → IsScalar c → 1 + count_by is_low_surrogate (encode_utf16 c) ≡ length (encode_utf16 c)
counted_char c scalar = ⊎_elim
    (λ (one : c < 0x1_0000).
    let no = not_low c (λ t. ⊎_elim (λ (low : c < 0xD800). omega (arith, t.0)) (λ (high : (0xE000 ≤ c) × (c < 0x11_0000)). omega (arith, high.0, t.1)) (no_surrogate c scalar)) in
    subst (λ us. 1 + count_by is_low_surrogate us ≡ length us) (sym (one_unit c one)) (ap (λ (b : Bool). 1 + (0 + cond b 1 0)) no))
    (λ (two : 0x1_0000 ≤ c).
    let bound : c < 0x11_0000 = ⊎_elim (λ (low : c < 0xD800). omega arith) (λ (high : (0xE000 ≤ c) × (c < 0x11_0000)). high.1) (no_surrogate c scalar) in
    let lead = 0xD800 + (c - 0x1_0000) / 0x400 in
    let trail = 0xDC00 + (c - 0x1_0000) % 0x400 in
    let no = not_low lead (λ t. omega (arith, t.0)) in
    let is = is_low trail (omega arith, omega arith) in
    subst (λ us. 1 + count_by is_low_surrogate us ≡ length us) (sym (two_units c two)) (ap₂ (λ (a b : Bool). 1 + (0 + cond a 1 0 + cond b 1 0)) no is))
    (cases_lt c 0x1_0000)

counted_text : (text : List ℕ) → All IsScalar text → length text + count_by is_low_surrogate (flat_map encode_utf16 text) ≡ length (flat_map encode_utf16 text)
counted_text [] scalars = refl
counted_text (c ∷ text) scalars =
    let units = flat_map encode_utf16 text in
    omega (
      arith,
      counted_char c (All-head IsScalar c text scalars),
      counted_text text (All-tail IsScalar c text scalars),
      sum_by-append (λ u. cond (is_low_surrogate u) 1 0) (encode_utf16 c) units,
      length-append (encode_utf16 c) units,
    )

-- well-formed bytes have a unit for each two bytes, and a character for each unit that is not
-- trailing
pub counted_bytes : (big : Bool) (bytes : List ℕ) → IsUtf16 big bytes → 2 * (length (text_of big bytes) + count_by is_low_surrogate (units_of big bytes)) ≡ length bytes
unfolding size
counted_bytes big bytes t =
    omega (arith, counted_text (text_of big bytes) (scalars-text_of big bytes t), length-text big bytes t, ap (count_by is_low_surrogate) (units_of-text big bytes t))
