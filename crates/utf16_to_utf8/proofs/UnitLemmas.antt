-- What a unit adds, by its class, and that the units of a text add its UTF-8.
use Rattle.std.proofs.Common.{◌≡◌, ℕ, ◌+◌, ◌-◌, ◌*◌, ◌/◌, ◌%◌, ◌<◌, ◌≤◌, ◌⊎◌, List, [], ◌∷◌, ◌++◌, All, refl, sym, ap, ap₂, ◌∙◌, ⊎_elim, arith, flat_map, append_assoc, encode_utf8_all, inl, inr, lt-ltb, le-ltb}
use Rattle.std.proofs.lemmas.Bool.{cases_lt, le-leb, lt-leb}
use Rattle.std.proofs.lemmas.List.Elements.{All-head, All-tail}
use Rattle.std.proofs.str.Utf16.{one_unit, two_units}
use Rattle.std.specs.Char.{IsScalar}
use Rattle.std.specs.Char.Escape.{encode_utf16}
use lib.Utf8.{encode}
use Rattle.utf16_units.proofs.CharLemmas.{no_surrogate}
use Rattle.utf16_units.proofs.Utf8Lemmas.{four_bytes, one_byte, three_bytes, two_bytes}
use Rattle.utf16_to_utf8.specs.Utf8.{continuation, unit_utf8, units_utf8}

pub unit-one : (before unit : ℕ) → unit < 0x80 → unit_utf8 before unit ≡ unit ∷ []
unfolding unit_utf8
unit-one before unit a = rw (lt-ltb unit 0x80 a) refl

pub unit-two : (before unit : ℕ) → 0x80 ≤ unit → unit < 0x800 → unit_utf8 before unit ≡ (0xC0 + unit / 64) ∷ continuation unit ∷ []
unfolding unit_utf8
unit-two before unit a b = rw (le-ltb unit 0x80 a, lt-ltb unit 0x800 b) refl

pub unit-leading : (before unit : ℕ) → 0xD800 ≤ unit → unit < 0xDC00
    → unit_utf8 before unit ≡ (0xF0 + (unit - 0xD7C0) / 256) ∷ continuation ((unit - 0xD7C0) / 4) ∷ []
unfolding unit_utf8
unit-leading before unit a b =
    let x : 0x80 ≤ unit = omega arith in
    let y : 0x800 ≤ unit = omega arith in
    rw (le-ltb unit 0x80 x, le-ltb unit 0x800 y, le-leb 0xD800 unit a, lt-ltb unit 0xDC00 b) refl

pub unit-trailing : (before unit : ℕ) → 0xDC00 ≤ unit → unit < 0xE000
    → unit_utf8 before unit ≡ continuation (before % 4 * 16 + unit % 1024 / 64) ∷ continuation unit ∷ []
unfolding unit_utf8
unit-trailing before unit a b =
    let x : 0x80 ≤ unit = omega arith in
    let y : 0x800 ≤ unit = omega arith in
    let z : 0xD800 ≤ unit = omega arith in
    rw (le-ltb unit 0x80 x, le-ltb unit 0x800 y, le-leb 0xD800 unit z, le-ltb unit 0xDC00 a, le-leb 0xDC00 unit a, lt-ltb unit 0xE000 b) refl

abbrev three : ℕ → List ℕ
three unit = (0xE0 + unit / 4096) ∷ continuation (unit / 64) ∷ continuation unit ∷ []

pub unit-three : (before unit : ℕ) → 0x800 ≤ unit → (unit < 0xD800) ⊎ (0xE000 ≤ unit) → unit_utf8 before unit ≡ three unit
unfolding unit_utf8
unit-three before unit a (inl low) =
    let x : 0x80 ≤ unit = omega arith in
    let z : unit < 0xDC00 = omega arith in
    rw (le-ltb unit 0x80 x, le-ltb unit 0x800 a, lt-leb 0xD800 unit low, lt-leb 0xDC00 unit z) refl
unit-three before unit a (inr high) =
    let x : 0x80 ≤ unit = omega arith in
    let z : 0xDC00 ≤ unit = omega arith in
    let w : 0xD800 ≤ unit = omega arith in
    rw (le-ltb unit 0x80 x, le-ltb unit 0x800 a, le-leb 0xD800 unit w, le-ltb unit 0xDC00 z, le-leb 0xDC00 unit z, le-ltb unit 0xE000 high) refl

-- ---- one character

char_one : (before c : ℕ) → c < 0x1_0000 → (c < 0xD800) ⊎ ((0xE000 ≤ c) × (c < 0x11_0000)) → unit_utf8 before c ≡ encode c
char_one before c below s = ⊎_elim
    (λ (a : c < 0x80). unit-one before c a ∙ sym (one_byte c a))
    (λ (b : 0x80 ≤ c). ⊎_elim
    (λ (a : c < 0x800). unit-two before c b a ∙ sym (two_bytes c b a))
    (λ (d : 0x800 ≤ c).
    unit-three before c d (⊎_elim (λ (low : c < 0xD800). inl low) (λ (high : (0xE000 ≤ c) × (c < 0x11_0000)). inr high.0) s) ∙ sym (three_bytes c d below))
    (cases_lt c 0x800))
    (cases_lt c 0x80)

char_two : (before c : ℕ) → 0x1_0000 ≤ c → c < 0x11_0000
    → unit_utf8 before (0xD800 + (c - 0x1_0000) / 0x400) ++ unit_utf8 (0xD800 + (c - 0x1_0000) / 0x400) (0xDC00 + (c - 0x1_0000) % 0x400) ≡ encode c
char_two before c two below =
    let lead = 0xD800 + (c - 0x1_0000) / 0x400 in
    let trail = 0xDC00 + (c - 0x1_0000) % 0x400 in
    ap₂ (λ xs ys. xs ++ ys) (unit-leading before lead (omega arith) (omega arith)) (unit-trailing lead trail (omega arith) (omega arith))
    ∙ ap₂ (λ (x y : ℕ). x ∷ y ∷ continuation (lead % 4 * 16 + trail % 1024 / 64) ∷ continuation trail ∷ []) (omega arith) (omega arith)
    ∙ ap₂ (λ (x y : ℕ). (240 + c / 262144) ∷ (128 + c / 4096 % 64) ∷ x ∷ y ∷ []) (omega arith) (omega arith)
    ∙ sym (four_bytes c two)

-- what the units of a character add, followed by others
char_utf8 : (before c : ℕ) (units : List ℕ) → IsScalar c → (last : ℕ) × (units_utf8 before (encode_utf16 c ++ units) ≡ encode c ++ units_utf8 last units)
unfolding units_utf8
char_utf8 before c units scalar = ⊎_elim
    (λ (one : c < 0x1_0000).
    (c, ap (λ us. units_utf8 before (us ++ units)) (one_unit c one) ∙ ap (λ bs. bs ++ units_utf8 c units) (char_one before c one (no_surrogate c scalar))))
    (λ (two : 0x1_0000 ≤ c).
    let lead = 0xD800 + (c - 0x1_0000) / 0x400 in
    let trail = 0xDC00 + (c - 0x1_0000) % 0x400 in
    let top : c < 0x11_0000 = ⊎_elim (λ (low : c < 0xD800). omega arith) (λ (high : (0xE000 ≤ c) × (c < 0x11_0000)). high.1) (no_surrogate c scalar) in (
      trail,
      ap (λ us. units_utf8 before (us ++ units)) (two_units c two)
          ∙ sym (append_assoc (unit_utf8 before lead) (unit_utf8 lead trail) (units_utf8 trail units))
          ∙ ap (λ bs. bs ++ units_utf8 trail units) (char_two before c two top),
    ))
    (cases_lt c 0x1_0000)

-- what the units of a text add is its UTF-8, whatever unit comes before them
pub text_utf8 : (before : ℕ) (text : List ℕ) → All IsScalar text → units_utf8 before (flat_map encode_utf16 text) ≡ encode_utf8_all text
unfolding units_utf8
text_utf8 before [] scalars = refl
text_utf8 before (c ∷ text) scalars =
    let here = char_utf8 before c (flat_map encode_utf16 text) (All-head IsScalar c text scalars) in
    here.1 ∙ ap (λ bs. encode c ++ bs) (text_utf8 here.0 text (All-tail IsScalar c text scalars))
