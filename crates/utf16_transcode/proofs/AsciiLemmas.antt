-- The ASCII at the start of a block of thirty-two code units.
use Rattle.std.proofs.Common.{◌≡◌, ℕ, All, ◌+◌, ◌*◌, ◌/◌, ◌%◌, ◌<◌, ◌≤◌, Bool, true, false, not, bit_and, cond, eqb, eqb-true, ltb, List, [], ◌∷◌, ◌++◌, encode_utf8_all, length, map, take, slice_index, refl, sym, ap, ap₂, ◌∙◌, subst, ⊎_elim, arith, Fits, w8, lt-ltb, le-ltb, length-take-le, take-take, true≢false}
use borrow.Author.Tests.{eq-eqb}
use lib.Count.{count_trailing_zeros}
use lib.Lanes.{Each1}
use Rattle.std.proofs.lemmas.List.Sums.{prefix_len-le-length, prefix_len_passes, prefix_len_stops}
use Rattle.std.proofs.lemmas.Nat.{and_le_l}
use Rattle.std.proofs.lemmas.Nat.Bits.{and_high_mask}
use Rattle.std.proofs.lemmas.Bool.{cases_Bool, cases_lt, lt-leb}
use Rattle.std.proofs.lemmas.List.{ext_get_or, get_or-drop, get_or-take, length-take, take_rest}
use Rattle.std.proofs.lemmas.List.Elements.{All-from_get_or, All-get_or, All-head, All-tail, All-weaker}
use Rattle.std.proofs.lemmas.Simd.{Each1-get_or, leading_from_mask_l, trailing_mask_l}
use Rattle.std.proofs.str.Laws.{one}
use Rattle.std.specs.Char.Escape.{encode_utf16}
use Rattle.std.specs.List.{flat_map, prefix_len}
use Rattle.std.specs.Prelude.{min}
use Rattle.std.specs.Simd.Lanes.{mask_l}
use lib.Utf8.{low_scalar}
use Rattle.std.specs.Char.{IsScalar}
use Rattle.utf16_units.specs.Encoding.{IsUtf16, char_bytes, encode, text_of, units_of, utf8_of}
use Rattle.utf16_units.specs.Unit.{unit_of}
use Rattle.utf16_units.specs.Lanes.{HasLanes, IsNoSurrogate}
use Rattle.utf16_units.proofs.AsciiLemmas.{ascii_bytes}
use Rattle.utf16_units.proofs.PlainLemmas.{IsUtf16-plain_front}
use Rattle.utf16_units.proofs.EncodingLemmas.{IsUtf16-encode, text_of-encode}
use Rattle.utf16_units.proofs.IllFormedLemmas.{rest_from}
use Rattle.utf16_units.proofs.UnitsUpTo.{length-units_of, units_of-at, units_of-front, units_of-text}

-- ---- how many bytes before the first that is not ASCII

abbrev is_other : ℕ → Bool
is_other byte = eqb (bit_and byte 0x80) 0x80

is_ascii : (byte : ℕ) → byte < 256 → not (is_other byte) ≡ true → byte < 0x80
is_ascii byte below clear = ⊎_elim
    (λ (low : byte < 0x80). low)
    (λ (high : 0x80 ≤ byte).
    let set : bit_and byte 0x80 ≡ 0x80 = and_high_mask 8 7 (omega arith) byte below ∙ omega arith in
    absurd (true≢false (sym clear ∙ ap not (eq-eqb _ _ set))))
    (cases_lt byte 0x80)

is_not_ascii : (byte : ℕ) → not (is_other byte) ≡ false → 0x80 ≤ byte
is_not_ascii byte set = ⊎_elim
    (λ (other : is_other byte ≡ true). omega (arith, eqb-true _ _ other, and_le_l byte 0x80))
    (λ (ascii : is_other byte ≡ false). absurd (true≢false (sym (ap not ascii) ∙ set)))
    (cases_Bool (is_other byte))

module _ (bytes : List ℕ) (m : ℕ) (long : length bytes ≡ m) (most : m ≤ 64) (bits : ℕ) (are : bits ≡ mask_l (map (λ byte. eqb (bit_and byte 0x80) 0x80) bytes)) where
  abbrev pub ascii_len : ℕ
  ascii_len = prefix_len (λ byte. not (is_other byte)) bytes

  pub ascii_len-all : bits ≡ 0 → ascii_len ≡ m
  ascii_len-all none = leading_from_mask_l is_other bytes (sym are ∙ none) ∙ long

  pub ascii_len-lowest : 0 < bits → ascii_len ≡ count_trailing_zeros 64 bits
  ascii_len-lowest some =
      sym (ap (count_trailing_zeros 64) are ∙ trailing_mask_l is_other 64 bytes (omega (arith, long)) (subst (λ m. 0 < m) are some))

  pub ascii_len-few : ascii_len ≤ m
  ascii_len-few = omega (arith, long, prefix_len-le-length (λ byte. not (is_other byte)) bytes)

  pub ascii_front : Each1 (Fits w8) bytes → All (λ byte. byte < 0x80) (take ascii_len bytes)
  ascii_front fits = All-from_get_or (λ byte. byte < 0x80) (take ascii_len bytes) 0 (λ i lt.
      let before : i < ascii_len = omega (arith, lt, length-take ascii_len bytes) in
      let within : i < length bytes = omega (arith, lt, length-take ascii_len bytes) in
      subst (λ byte. byte < 0x80) (sym (get_or-take ascii_len bytes i 0 before))
      (is_ascii (slice_index bytes i) (Each1-get_or (Fits w8) bytes i 0 within fits).fits
      (prefix_len_passes (λ byte. not (is_other byte)) bytes i 0 before)))

  pub other_there : ascii_len < m → 0x80 ≤ slice_index bytes ascii_len
  other_there within =
      is_not_ascii (slice_index bytes ascii_len) (prefix_len_stops (λ byte. not (is_other byte)) bytes 0 (omega (arith, long)))

-- ---- the units of these bytes

pub lesser : (a b : ℕ) → cond (ltb a b) a b ≡ min a b
lesser a b = ⊎_elim
    (λ (less : a < b). rw (lt-ltb a b less) (omega arith))
    (λ (more : b ≤ a). rw (le-ltb a b more) (omega arith))
    (cases_lt a b)

no_surrogate-low : (unit : ℕ) → unit < 0x80 → IsNoSurrogate unit
no_surrogate-low unit low =
    let first : unit < 0xD800 = omega arith in
    let second : unit < 0xDC00 = omega arith in
    (rw (lt-leb 0xD800 unit first) refl, rw (lt-leb 0xDC00 unit second) refl)

-- ASCII at the start of the clamped units is also at the start of the units
same_front : (n : ℕ) (bytes units : List ℕ) → length units ≡ 32 → HasLanes 32 bytes (λ i. min (slice_index units i) 0xFF) → All (λ byte. byte < 0x80) (take n bytes)
    → take n bytes ≡ take n units
same_front n bytes units long clamped ascii =
    let size = length-take n bytes in
    let other = length-take n units in
    ext_get_or 0 (take n bytes) (take n units) (omega (arith, clamped.len)) (λ i lt.
    let before : i < n = omega arith in
    let within : i < 32 = omega (arith, clamped.len) in
    let here = get_or-take n bytes i 0 before in
    let small = subst (λ byte. byte < 0x80) here (All-get_or (λ byte. byte < 0x80) (take n bytes) i 0 lt ascii) in
    here ∙ omega (arith, small, clamped.lanes i within) ∙ sym (get_or-take n units i 0 before))

one_unit : (c : ℕ) → c < 0x80 → encode_utf16 c ≡ c ∷ []
one_unit c low =
    let below : c < 0x1_0000 = omega arith in
    rw (lt-ltb c 0x1_0000 below) refl

-- ASCII has the same numbers in both encodings
ascii_utf16 : (cs : List ℕ) → All (λ c. c < 0x80) cs → flat_map encode_utf16 cs ≡ cs
ascii_utf16 [] low = refl
ascii_utf16 (c ∷ cs) low = ap₂ (λ us more. us ++ more) (one_unit c (All-head (λ c. c < 0x80) c cs low)) (ascii_utf16 cs (All-tail (λ c. c < 0x80) c cs low))

pub ascii_utf8 : (cs : List ℕ) → All (λ c. c < 0x80) cs → encode_utf8_all cs ≡ cs
ascii_utf8 [] low = refl
ascii_utf8 (c ∷ cs) low = ap₂ (λ us more. us ++ more) (one c (All-head (λ c. c < 0x80) c cs low)) (ascii_utf8 cs (All-tail (λ c. c < 0x80) c cs low))

pub ascii_bytes-utf8 : (big : Bool) (bytes : List ℕ) → IsUtf16 big bytes → All (λ unit. unit < 0x80) (units_of big bytes) → units_of big bytes ≡ utf8_of big bytes
ascii_bytes-utf8 big bytes text ascii =
    let low = (ascii_bytes big bytes text).0 ascii in
    units_of-text big bytes text ∙ ascii_utf16 (text_of big bytes) low ∙ sym (ascii_utf8 (text_of big bytes) low)

-- the UTF-16 of ASCII has its numbers as units
pub ascii_input : (big : Bool) (raw text : List ℕ) → All (λ c. c < 0x80) text → raw ≡ flat_map (char_bytes big) text → IsUtf16 big raw × (units_of big raw ≡ text)
unfolding encode
ascii_input big raw text low is =
    let scalars = All-weaker (λ c. c < 0x80) IsScalar (λ c low. low_scalar c (omega (arith, low))) text low in
    let utf16 = subst (IsUtf16 big) (sym is) (IsUtf16-encode big text scalars) in
    (utf16, units_of-text big raw utf16 ∙ ap (λ b. flat_map encode_utf16 (text_of big b)) is ∙ ap (flat_map encode_utf16) (text_of-encode big text scalars) ∙ ascii_utf16 text low)

-- and each of them is below 0x80
pub ascii_unit : (big : Bool) (raw : List ℕ) (read : ℕ) → read % 2 ≡ 0 → read + 2 ≤ length raw → All (λ unit. unit < 0x80) (units_of big raw)
    → unit_of big (slice_index (rest_from raw read) 0) (slice_index (rest_from raw read) 1) < 0x80
ascii_unit big raw read even within ascii =
    let i = read / 2 in
    let at : read ≡ 2 * i = omega (arith, even) in
    let first : slice_index (rest_from raw read) 0 ≡ slice_index raw (2 * i) = ap (λ b. slice_index b 0) (take_rest raw read) ∙ get_or-drop read raw 0 0 ∙ ap (slice_index raw) (omega (arith, at)) in
    let second : slice_index (rest_from raw read) 1 ≡ slice_index raw (2 * i + 1) = ap (λ b. slice_index b 1) (take_rest raw read) ∙ get_or-drop read raw 1 0 ∙ ap (slice_index raw) (omega (arith, at)) in
    let low = All-get_or (λ unit. unit < 0x80) (units_of big raw) i 0 (omega (arith, within, at, length-units_of big raw)) ascii in
    subst (λ unit. unit < 0x80) (units_of-at big raw i (omega (arith, within, at)) ∙ ap₂ (unit_of big) (sym first) (sym second)) low

module _ (big : Bool) (raw bytes : List ℕ) (many : 64 ≤ length raw) (fits : (k : ℕ) → Fits w8 (slice_index raw k)) (n : ℕ) (few : n ≤ 32)
    (long : length (units_of big (take 64 raw)) ≡ 32) (clamped : HasLanes 32 bytes (λ i. min (slice_index (units_of big (take 64 raw)) i) 0xFF))
    (ascii : All (λ byte. byte < 0x80) (take n bytes)) where
  front : take n bytes ≡ take n (units_of big (take 64 raw))
  front = same_front n bytes (units_of big (take 64 raw)) long clamped ascii

  ascii_units : All (λ unit. unit < 0x80) (take n (units_of big (take 64 raw)))
  ascii_units = subst (All (λ unit. unit < 0x80)) front ascii

  pub ascii_is_text : IsUtf16 big (take (2 * n) raw)
  ascii_is_text = IsUtf16-plain_front big raw 64 many n (omega arith) fits (All-weaker (λ unit. unit < 0x80) IsNoSurrogate no_surrogate-low _ ascii_units)

  pub ascii_written : (to : List ℕ) → take 32 to ≡ bytes → take n to ≡ utf8_of big (take (2 * n) raw)
  ascii_written to wrote =
      let units : take n (units_of big (take 64 raw)) ≡ units_of big (take (2 * n) raw) =
      units_of-front big (take 64 raw) n (omega (arith, length-take-le 64 raw many)) ∙ ap (units_of big) (take-take (2 * n) 64 raw (omega arith)) in
      sym (take-take n 32 to few) ∙ ap (take n) wrote ∙ front
      ∙ units ∙ ascii_bytes-utf8 big (take (2 * n) raw) ascii_is_text (subst (All (λ unit. unit < 0x80)) units ascii_units)
