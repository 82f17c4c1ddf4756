-- What the bytes of a text in UTF-8 add is its UTF-16.
use Rattle.std.proofs.Common.{◌≡◌, ℕ, Bool, ◌+◌, ◌-◌, ◌*◌, ◌/◌, ◌%◌, ◌<◌, ◌≤◌, List, [], ◌∷◌, ◌++◌, All, refl, sym, ap, ap₂, ◌∙◌, ⊎_elim, arith, flat_map, encode_utf8_all}
use Rattle.std.proofs.lemmas.Bool.{cases_lt}
use Rattle.std.proofs.lemmas.Grind.{flat_map-append}
use Rattle.std.proofs.lemmas.List.Elements.{All-head, All-tail}
use Rattle.std.proofs.lemmas.Str.{encodes-chars}
use Rattle.std.proofs.str.Utf16.{one_unit, two_units}
use Rattle.std.specs.Char.{IsScalar, encode_utf8}
use Rattle.std.specs.Char.Escape.{encode_utf16}
use Rattle.std.specs.Str.{IsUtf8, chars}
use Rattle.utf16_units.specs.Encoding.{encode}
use Rattle.utf16_units.specs.Unit.{unit_bytes}
use Rattle.utf16_units.proofs.CharLemmas.{no_surrogate}
use Rattle.utf16_units.proofs.EncodingLemmas.{encode-cons, encode-nil}
use Rattle.utf16_units.proofs.SizeLemmas.{scalars-of}
use Rattle.utf16_units.proofs.Utf8Lemmas.{four_bytes, one_byte, three_bytes, two_bytes}
use Rattle.utf16_from_utf8.specs.Added.{added, added_bytes, all_added}
use Rattle.utf16_from_utf8.proofs.AddedLemmas.{adds-none-behind, adds-none-first, adds-one, all_added-cons, all_added-nil, unit-leading, unit-one, unit-three, unit-trailing, unit-two}

-- what the bytes of a character add, and the two bytes before the next one
record Adds (b2 b1 c : ℕ) (more : List ℕ) : Type 0 where
  last_but_one : ℕ
  last : ℕ
  below : last < 0xE0
  units : all_added b2 b1 (encode_utf8 c ++ more) ≡ encode_utf16 c ++ all_added last_but_one last more

adds_one : (b2 b1 c : ℕ) (more : List ℕ) → b1 < 0xE0 → c < 0x80 → Adds b2 b1 c more
adds_one b2 b1 c more behind a =
    let here = adds-one b2 b1 c (omega arith) behind ∙ ap (λ u. u ∷ []) (unit-one b2 b1 c a) in
    record {
      last_but_one = b1;
      last = c;
      below = omega arith;
      units =
          ap (λ bytes. all_added b2 b1 (bytes ++ more)) (one_byte c a)
          ∙ all_added-cons b2 b1 c more
          ∙ ap₂ (λ x y. x ++ y) (here ∙ sym (one_unit c (omega arith))) (refl {a = all_added b1 c more});
    }

adds_two : (b2 b1 c : ℕ) (more : List ℕ) → 0x80 ≤ c → c < 0x800 → Adds b2 b1 c more
adds_two b2 b1 c more a b =
    let x = 192 + c / 64 in
    let y = 128 + c % 64 in
    let unit : added b1 x y ≡ c ∷ [] = adds-one b1 x y (omega arith) (omega arith) ∙ ap (λ u. u ∷ []) (unit-two b1 x y (omega arith) (omega arith) ∙ omega arith) in
    record {
      last_but_one = x;
      last = y;
      below = omega arith;
      units =
          ap (λ bytes. all_added b2 b1 (bytes ++ more)) (two_bytes c a b)
          ∙ all_added-cons b2 b1 x (y ∷ more)
          ∙ ap₂ (λ p q. p ++ q) (adds-none-first b2 b1 x (omega arith)) (all_added-cons b1 x y more)
          ∙ ap (λ p. p ++ all_added x y more) (unit ∙ sym (one_unit c (omega arith)));
    }

adds_three : (b2 b1 c : ℕ) (more : List ℕ) → 0x800 ≤ c → c < 0x1_0000 → Adds b2 b1 c more
adds_three b2 b1 c more a b =
    let x = 224 + c / 4096 in
    let y = 128 + c / 64 % 64 in
    let z = 128 + c % 64 in
    let unit : added x y z ≡ c ∷ [] = adds-one x y z (omega arith) (omega arith) ∙ ap (λ u. u ∷ []) (unit-three x y z (omega arith) (omega arith) (omega arith) (omega arith) ∙ omega arith) in
    record {
      last_but_one = y;
      last = z;
      below = omega arith;
      units =
          ap (λ bytes. all_added b2 b1 (bytes ++ more)) (three_bytes c a b)
          ∙ all_added-cons b2 b1 x (y ∷ z ∷ more)
          ∙ ap₂ (λ p q. p ++ q) (adds-none-first b2 b1 x (omega arith)) (all_added-cons b1 x y (z ∷ more))
          ∙ ap₂ (λ p q. p ++ q) (adds-none-behind b1 x y (omega arith)) (all_added-cons x y z more)
          ∙ ap (λ p. p ++ all_added y z more) (unit ∙ sym (one_unit c b));
    }

adds_four : (b2 b1 c : ℕ) (more : List ℕ) → 0x1_0000 ≤ c → c < 0x11_0000 → Adds b2 b1 c more
adds_four b2 b1 c more a b =
    let x = 240 + c / 262144 in
    let y = 128 + c / 4096 % 64 in
    let z = 128 + c / 64 % 64 in
    let w = 128 + c % 64 in
    let lead : 0xD7C0 + (x % 8 * 256 + (y % 64 * 4 + z % 64 / 16)) ≡ 0xD800 + (c - 0x1_0000) / 0x400 = omega arith in
    let trail : 0xDC00 + (z % 16 * 64 + w % 64) ≡ 0xDC00 + (c - 0x1_0000) % 0x400 = omega arith in
    let first = adds-one x y z (omega arith) (omega arith) ∙ ap (λ u. u ∷ []) (unit-leading x y z (omega arith) (omega arith) (omega arith) ∙ lead) in
    let second = adds-one y z w (omega arith) (omega arith) ∙ ap (λ u. u ∷ []) (unit-trailing y z w (omega arith) (omega arith) (omega arith) ∙ trail) in
    record {
      last_but_one = z;
      last = w;
      below = omega arith;
      units =
          ap (λ bytes. all_added b2 b1 (bytes ++ more)) (four_bytes c a)
          ∙ all_added-cons b2 b1 x (y ∷ z ∷ w ∷ more)
          ∙ ap₂ (λ p q. p ++ q) (adds-none-first b2 b1 x (omega arith)) (all_added-cons b1 x y (z ∷ w ∷ more))
          ∙ ap₂ (λ p q. p ++ q) (adds-none-behind b1 x y (omega arith)) (all_added-cons x y z (w ∷ more))
          ∙ ap₂ (λ p q. p ++ q) first (all_added-cons y z w more ∙ ap (λ p. p ++ all_added z w more) second)
          ∙ ap (λ p. p ++ all_added z w more) (sym (two_units c a));
    }

adds_char : (b2 b1 c : ℕ) (more : List ℕ) → b1 < 0xE0 → IsScalar c → Adds b2 b1 c more
adds_char b2 b1 c more behind scalar = ⊎_elim
    (λ (one : c < 0x80). adds_one b2 b1 c more behind one)
    (λ (a : 0x80 ≤ c). ⊎_elim
    (λ (two : c < 0x800). adds_two b2 b1 c more a two)
    (λ (b : 0x800 ≤ c). ⊎_elim
    (λ (three : c < 0x1_0000). adds_three b2 b1 c more b three)
    (λ (four : 0x1_0000 ≤ c).
    let top : c < 0x11_0000 = ⊎_elim (λ (low : c < 0xD800). omega arith) (λ (high : (0xE000 ≤ c) × (c < 0x11_0000)). high.1) (no_surrogate c scalar) in
    adds_four b2 b1 c more four top)
    (cases_lt c 0x1_0000))
    (cases_lt c 0x800))
    (cases_lt c 0x80)

pub all_added-text : (b2 b1 : ℕ) (text : List ℕ) → b1 < 0xE0 → All IsScalar text → all_added b2 b1 (encode_utf8_all text) ≡ flat_map encode_utf16 text
all_added-text b2 b1 [] behind scalars = all_added-nil b2 b1
all_added-text b2 b1 (c ∷ text) behind scalars =
    let here = adds_char b2 b1 c (encode_utf8_all text) behind (All-head IsScalar c text scalars) in
    here.units ∙ ap (λ units. encode_utf16 c ++ units) (all_added-text here.last_but_one here.last text here.below (All-tail IsScalar c text scalars))

bytes-of-units : (big : Bool) (text : List ℕ) → flat_map (unit_bytes big) (flat_map encode_utf16 text) ≡ encode big text
bytes-of-units big [] = sym (encode-nil big)
bytes-of-units big (c ∷ text) =
    flat_map-append (unit_bytes big) (encode_utf16 c) (flat_map encode_utf16 text)
    ∙ ap (λ t. flat_map (unit_bytes big) (encode_utf16 c) ++ t) (bytes-of-units big text)
    ∙ sym (encode-cons big c text)

-- what all bytes of a text add is its encoding, also after other characters
pub added_bytes-after : (big : Bool) (b2 b1 : ℕ) (bytes : List ℕ) → b1 < 0xE0 → IsUtf8 bytes → added_bytes big b2 b1 bytes ≡ encode big (chars bytes)
added_bytes-after big b2 b1 bytes behind utf8 =
    ap (added_bytes big b2 b1) (sym (encodes-chars bytes utf8))
    ∙ ap (flat_map (unit_bytes big)) (all_added-text b2 b1 (chars bytes) behind (scalars-of bytes utf8))
    ∙ bytes-of-units big (chars bytes)

pub added_bytes-text : (big : Bool) (bytes : List ℕ) → IsUtf8 bytes → added_bytes big 0 0 bytes ≡ encode big (chars bytes)
added_bytes-text big bytes utf8 = added_bytes-after big 0 0 bytes (omega arith) utf8
