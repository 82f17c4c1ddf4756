-- Units whose surrogates are paired are the units of a text, followed by a leading unit if the last
-- one is leading.
use Rattle.std.proofs.Common.{◌≡◌, ℕ, ◌+◌, ◌-◌, ◌*◌, ◌%◌, ◌<◌, ◌≤◌, Bool, true, false, cond, leb, ltb, List, [], ◌∷◌, ◌++◌, length, map, take, drop, slice_index, refl, sym, ap, ◌∙◌, subst, arith, append_assoc, take_all, Fits, w8, length-append, length-drop, length-take-le}
use Rattle.std.proofs.lemmas.Bool.{and_from, and_parts, false≢true, false_from_ne_true, leb-true, le-leb, lt-ltb, ltb-true}
use Rattle.std.proofs.lemmas.List.{append_cancel_left, drop-drop, map-append, take-take}
use Rattle.std.proofs.lemmas.Simd.{chunk-fits}
use lib.Lanes.{Each1}
use Rattle.std.specs.Char.Utf16.{is_high_surrogate, is_low_surrogate}
use Rattle.utf16_units.specs.Unit.{IsLeading, unit_of}
use Rattle.utf16_units.specs.Encoding.{IsUtf16, units_of}
use Rattle.utf16_units.specs.Lanes.{Paired, PairedTo, PassedTo, BlocksStopAt}
use Rattle.utf16_units.proofs.ContinuedLemmas.{four_bytes_text, two_bytes_text}
use Rattle.utf16_units.proofs.EncodingLemmas.{IsUtf16-append, IsUtf16-nil}
use Rattle.utf16_units.proofs.IllFormedLemmas.{take-past}
use Rattle.utf16_units.proofs.SurrogateLemmas.{in_class}
use Rattle.utf16_units.proofs.UnitsUpTo.{units_of-next}

-- paired units in one block and then in the next
pub Paired-append : (before between after : Bool) (front back : List ℕ) → Paired before front between → Paired between back after → Paired before (front ++ back) after
Paired-append before between after front back f b =
    ap (λ bits. bits ++ after ∷ []) (map-append is_low_surrogate front back)
    ∙ append_assoc (map is_low_surrogate front) (map is_low_surrogate back) (after ∷ [])
    ∙ ap (λ bits. map is_low_surrogate front ++ bits) b
    ∙ sym (append_assoc (map is_low_surrogate front) (between ∷ []) (map is_high_surrogate back))
    ∙ ap (λ bits. bits ++ map is_high_surrogate back) f
    ∙ ap (λ bits. before ∷ bits) (sym (map-append is_high_surrogate front back))

pub PairedTo-none : (big : Bool) (bytes : List ℕ) → PairedTo big bytes 0 false
unfolding units_of
PairedTo-none big bytes = record { within = omega arith; even = refl; paired = refl }

pub PairedTo-next : (big : Bool) (bytes : List ℕ) (at n : ℕ) (before after : Bool) → PairedTo big bytes at before → n % 2 ≡ 0 → at + n ≤ length bytes
    → Paired before (units_of big (take n (drop at bytes))) after → PairedTo big bytes (at + n) after
PairedTo-next big bytes at n before after p even long block =
    record {
      within = long;
      even = omega arith;
      paired = subst (λ units. Paired false units after) (sym (units_of-next big bytes at n p.even p.within))
          (Paired-append false before after (units_of big (take at bytes)) (units_of big (take n (drop at bytes))) p.paired block);
    }

-- ---- the tests of the two classes

pub is_of : (m unit : ℕ) → in_class m unit ≡ true → (1024 * m ≤ unit) × (unit ≤ 1024 * m + 1023)
is_of m unit e =
    let parts = and_parts (leb (1024 * m) unit) (ltb unit (1024 * m + 1024)) e in
    let below = ltb-true _ _ parts.1 in
    (leb-true _ _ parts.0, omega arith)

pub is_not_of : (m unit : ℕ) → in_class m unit ≡ false → ¬ ((1024 * m ≤ unit) × (unit ≤ 1024 * m + 1023))
is_not_of m unit e is =
    false≢true (sym e ∙ and_from _ _ (le-leb _ _ is.0) (lt-ltb unit (1024 * m + 1024) (omega arith)))

not_both : (unit : ℕ) → is_low_surrogate unit ≡ true → is_high_surrogate unit ≡ true → ⊥
not_both unit low high =
    let l = is_of 55 unit low in
    let h = is_of 54 unit high in
    omega arith

-- ---- the text

abbrev head_bit : List Bool → Bool
head_bit [] = false
head_bit (b ∷ bits) = b

-- a prefix of the bytes that is a text: all of them, or all but a unit at the end
pub record TextBefore (big : Bool) (bytes : List ℕ) (after : Bool) : Type 0 where
  pub size : ℕ
  pub all : size + 2 * cond after 1 0 ≡ length bytes
  pub text : IsUtf16 big (take size bytes)

TextBefore-behind : (big after : Bool) (front bytes : List ℕ) → IsUtf16 big front → TextBefore big bytes after → TextBefore big (front ++ bytes) after
TextBefore-behind big after front bytes t h =
    let all = h.all in
    record {
      size = length front + h.size;
      all = omega (arith, length-append front bytes);
      text = subst (IsUtf16 big) (sym (take-past front bytes h.size)) (IsUtf16-append big front (take h.size bytes) t h.text);
    }

-- such a prefix of the bytes with any leading unit before them, or with none
abbrev Before : Bool → Bool → List ℕ → Bool → Type 0
Before big false bytes after = TextBefore big bytes after
Before big true bytes after = (x y : ℕ) → x < 256 → y < 256 → IsLeading (unit_of big x y) → TextBefore big (x ∷ y ∷ bytes) after

at_first : (big after : Bool) (x y : ℕ) (bytes : List ℕ) → x < 256 → y < 256 → is_low_surrogate (unit_of big x y) ≡ false
    → (high : Bool) → is_high_surrogate (unit_of big x y) ≡ high → Before big high bytes after → TextBefore big (x ∷ y ∷ bytes) after
at_first big after x y bytes bx by low true high h = h x y bx by (is_of 54 (unit_of big x y) high)
at_first big after x y bytes bx by low false high h =
    TextBefore-behind big after (x ∷ y ∷ []) bytes (two_bytes_text big x y bx by (is_not_of 54 (unit_of big x y) high) (is_not_of 55 (unit_of big x y) low)) h

-- paired units are the units of a text, followed by a leading unit if the last one is leading
text_before : (big before after : Bool) (bytes : List ℕ) → Each1 (Fits w8) bytes → length bytes % 2 ≡ 0 → Paired before (units_of big bytes) after
    → Before big before bytes after
unfolding units_of
text_before big before after (x ∷ []) fit even p = absurd (omega arith)
text_before big false true [] fit even p = absurd (false≢true (sym (ap head_bit p)))
text_before big false false [] fit even p = record { size = 0; all = refl; text = IsUtf16-nil big }
text_before big true true [] fit even p = λ x y bx by lead. record { size = 0; all = refl; text = IsUtf16-nil big }
text_before big true false [] fit even p = absurd (false≢true (ap head_bit p))
text_before big false after (x ∷ y ∷ bytes) fit even p =
    let high = is_high_surrogate (unit_of big x y) in
    at_first big after x y bytes fit.0.fits fit.1.0.fits (ap head_bit p) high refl
    (text_before big high after bytes fit.1.1 (omega arith) (ap (drop 1) p))
text_before big true after (z ∷ w ∷ bytes) fit even p =
    let unit = unit_of big z w in
    let low : is_low_surrogate unit ≡ true = ap head_bit p in
    let not_high : is_high_surrogate unit ≡ false = false_from_ne_true (is_high_surrogate unit) (not_both unit low) in
    let rest = text_before big (is_high_surrogate unit) after bytes fit.1.1 (omega arith) (ap (drop 1) p) in
    λ x y bx by lead.
    TextBefore-behind big after (x ∷ y ∷ z ∷ w ∷ []) bytes (four_bytes_text big x y z w bx by fit.0.fits fit.1.0.fits lead (is_of 55 unit low))
    (subst (λ high. Before big high bytes after) not_high rest)

-- if the last unit is not leading, the bytes are a text
pub paired-text : (big : Bool) (bytes : List ℕ) → Each1 (Fits w8) bytes → length bytes % 2 ≡ 0 → Paired false (units_of big bytes) false → IsUtf16 big bytes
paired-text big bytes fit even p =
    let h = text_before big false false bytes fit even p in
    subst (IsUtf16 big) (take_all h.size bytes (omega (arith, h.all))) h.text

module _ (big : Bool) (bytes : List ℕ) (at : ℕ) (fits : (k : ℕ) → Fits w8 (slice_index bytes k)) where
  before : (after : Bool) → PairedTo big bytes at after → TextBefore big (take at bytes) after
  before after p =
      text_before big false after (take at bytes) (chunk-fits w8 0 at bytes fits) (omega (arith, length-take-le at bytes p.within)) p.paired

  text_to : (after : Bool) (n : ℕ) → PairedTo big bytes at after → n + 2 * cond after 1 0 ≡ at → IsUtf16 big (take n bytes)
  text_to after n p e =
      let h = before after p in
      let size : h.size ≡ n = omega (arith, h.all, length-take-le at bytes p.within) in
      subst (IsUtf16 big) (take-take h.size at bytes (omega arith) ∙ ap (λ m. take m bytes) size) h.text

  -- if the last unit is not leading the bytes are a text, and if it is, those before it are
  pub PairedTo-text : (after : Bool) → after ≡ false → PairedTo big bytes at after → IsUtf16 big (take at bytes)
  PairedTo-text after e p = text_to false at (subst (PairedTo big bytes at) e p) (omega arith)

  pub PairedTo-some : (after : Bool) → after ≡ true → PairedTo big bytes at after → 2 ≤ at
  PairedTo-some after e p =
      let h = before true (subst (PairedTo big bytes at) e p) in
      omega (arith, h.all, length-take-le at bytes p.within)

  pub PairedTo-text_before : (after : Bool) → after ≡ true → PairedTo big bytes at after → IsUtf16 big (take (at - 2) bytes)
  PairedTo-text_before after e p = text_to true (at - 2) (subst (PairedTo big bytes at) e p) (omega (arith, PairedTo-some after e p))

-- ---- where blocks stop

-- whether the last unit is leading is determined
PairedTo-same : (big : Bool) (bytes : List ℕ) (at : ℕ) (a b : Bool) → PairedTo big bytes at a → PairedTo big bytes at b → a ≡ b
PairedTo-same big bytes at a b p q =
    ap head_bit (append_cancel_left (map is_low_surrogate (units_of big (take at bytes))) (a ∷ []) (b ∷ []) (p.paired ∙ sym q.paired))

-- two half blocks are one block
halves_paired : (big : Bool) (bytes : List ℕ) (before between after : Bool) → 32 ≤ length bytes → Paired before (units_of big (take 32 bytes)) between
    → Paired between (units_of big (take 32 (drop 32 bytes))) after → Paired before (units_of big (take 64 bytes)) after
halves_paired big bytes before between after long first second =
    subst (λ units. Paired before units after) (sym (units_of-next big bytes 32 32 refl long))
    (Paired-append before between after (units_of big (take 32 bytes)) (units_of big (take 32 (drop 32 bytes))) first second)

module _ (big : Bool) (bytes : List ℕ) (whole at : ℕ) (before after : Bool) (p : PairedTo big bytes whole before) (far : BlocksStopAt 64 big bytes whole before)
    (q : PairedTo big bytes at after) (stop : BlocksStopAt 32 big bytes whole before → at ≡ whole) (pass : ¬ BlocksStopAt 32 big bytes whole before → at ≡ whole + 32) where
  -- after an offset at which blocks of 64 bytes stop, at most one half block passes
  half_stops : BlocksStopAt 32 big bytes at after
  half_stops long last block =
      let moves : ¬ BlocksStopAt 32 big bytes whole before = λ s.
      let same = PairedTo-same big bytes whole before after p (subst (λ k. PairedTo big bytes k after) (stop s) q) in
      let here : BlocksStopAt 32 big bytes whole after = subst (λ b. BlocksStopAt 32 big bytes whole b) same s in
      subst (λ k. BlocksStopAt 32 big bytes k after) (sym (stop s)) here long last block in
      let on : at ≡ whole + 32 = pass moves in
      moves (λ room between first.
      let next = PairedTo-next big bytes whole 32 before between p refl room first in
      let same = PairedTo-same big bytes (whole + 32) between after next (subst (λ k. PairedTo big bytes k after) on q) in
      let there : drop at bytes ≡ drop 32 (drop whole bytes) = ap (λ k. drop k bytes) on ∙ sym (drop-drop 32 whole bytes) in
      far (omega arith) last
      (halves_paired big (drop whole bytes) before between last (omega (arith, length-drop whole bytes)) first
      (subst (λ b. Paired b (units_of big (take 32 (drop 32 (drop whole bytes)))) last) (sym same)
      (subst (λ rest. Paired after (units_of big (take 32 rest)) last) there block))))

  pub PassedTo-half : (size : ℕ) → size + cond after 2 0 ≡ at → PassedTo big bytes size
  PassedTo-half size e = record { at = at; leading = after; paired = q; stops = half_stops; back = e }
