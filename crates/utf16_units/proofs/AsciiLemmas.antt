-- ASCII by units: a character is ASCII exactly if its units are, and a unit exactly if neither of
-- its bytes is above the byte of U+007F at its position.
use Rattle.std.proofs.Common.{◌≡◌, ◌↔◌, ℕ, zero, suc, ◌+◌, ◌-◌, ◌*◌, ◌/◌, ◌%◌, ◌^◌, ◌<◌, ◌≤◌, Bool, true, false, cond, eqb, ltb, List, [], ◌∷◌, ◌++◌, length, map, take, drop, slice_index, All, IsTrue, refl, sym, ap, ◌∙◌, subst, ⊎_elim, arith, flat_map, w8}
use Rattle.std.proofs.lemmas.Bool.{cases_lt, eq-eqb, false≢true, eqb-true, le-ltb, ltb-false}
use Rattle.std.proofs.lemmas.List.Elements.{All-append, All-cons, All-head, All-nil, All-tail}
use Rattle.std.proofs.lemmas.Simd.{length-zip2, mask_l-mod, tops_compared}
use Rattle.std.proofs.str.Utf16.{one_unit, two_units}
use Rattle.std.specs.Char.{IsScalar}
use Rattle.std.specs.Char.Escape.{encode_utf16}
use lib.Lanes.{mask_l, top, zip2}
use Rattle.utf16_units.specs.Unit.{unit_bytes, unit_of}
use Rattle.utf16_units.specs.Encoding.{IsUtf16, text_of, units_of}
use Rattle.utf16_units.proofs.EncodingLemmas.{scalars-text_of}
use Rattle.utf16_units.proofs.UnitsUpTo.{units_of-all, units_of-next, units_of-one, units_of-split, units_of-text}

abbrev pub is_ascii : ℕ → Type 0
is_ascii unit = unit < 0x80

-- ---- a block

abbrev pub alternate : ℕ → ℕ → ℕ → List ℕ
alternate first second zero = []
alternate first second (suc n) = first ∷ second ∷ alternate first second n

clear : (a b : Bool) (m : ℕ) → (cond a 1 0 + 2 * (cond b 1 0 + 2 * m) ≡ 0) ↔ ((a ≡ false) × (b ≡ false) × (m ≡ 0))
clear false false m = (λ e. (refl, refl, omega arith), λ h. omega (arith, h.2))
clear true b m = (λ e. absurd (omega arith), λ h. absurd (false≢true (sym h.0)))
clear false true m = (λ e. absurd (omega arith), λ h. absurd (false≢true (sym h.1)))

-- no byte is above the byte of U+007F at its position exactly if all units are ASCII
below_limits : (big : Bool) (n : ℕ) (block : List ℕ) → length block ≡ n + n
    → (mask_l (zip2 ltb (alternate (slice_index (unit_bytes big 0x7F) 0) (slice_index (unit_bytes big 0x7F) 1) n) block) ≡ 0) ↔ All is_ascii (units_of big block)
unfolding units_of
below_limits big zero [] long = (λ e. All-nil is_ascii, λ all. refl)
below_limits big zero (x ∷ block) long = absurd (omega arith)
below_limits big (suc n) [] long = absurd (omega arith)
below_limits big (suc n) (x ∷ []) long = absurd (omega arith)
below_limits true (suc n) (x ∷ y ∷ block) long =
    let rest = below_limits true n block (omega arith) in (
      λ e.
          let parts = (clear (ltb 0 x) (ltb 127 y) _).0 e in
          All-cons is_ascii _ _ (omega (arith, ltb-false _ _ parts.0, ltb-false _ _ parts.1)) (rest.0 parts.2),
      λ all.
          let here = All-head is_ascii _ _ all in
          (clear (ltb 0 x) (ltb 127 y) _).1 (le-ltb 0 x (omega (arith, here)), le-ltb 127 y (omega (arith, here)), rest.1 (All-tail is_ascii _ _ all)),
    )
below_limits false (suc n) (x ∷ y ∷ block) long =
    let rest = below_limits false n block (omega arith) in (
      λ e.
          let parts = (clear (ltb 127 x) (ltb 0 y) _).0 e in
          All-cons is_ascii _ _ (omega (arith, ltb-false _ _ parts.0, ltb-false _ _ parts.1)) (rest.0 parts.2),
      λ all.
          let here = All-head is_ascii _ _ all in
          (clear (ltb 127 x) (ltb 0 y) _).1 (le-ltb 127 x (omega (arith, here)), le-ltb 0 y (omega (arith, here)), rest.1 (All-tail is_ascii _ _ all)),
    )

pub ascii_block : (big : Bool) (block last : List ℕ) → length block ≡ 64 → last ≡ unit_bytes big 0x7F
    → IsTrue (eqb (mask_l (map (top 7) (zip2 (λ a b. cond (ltb a b) 255 0) (alternate (slice_index last 0) (slice_index last 1) 32) block)) % 2 ^ 64) 0)
    ↔ All is_ascii (units_of big block)
ascii_block big block last long is =
    let limits = alternate (slice_index last 0) (slice_index last 1) 32 in
    let bits : mask_l (map (top 7) (zip2 (λ a b. cond (ltb a b) 255 0) limits block)) % 2 ^ 64 ≡ mask_l (zip2 ltb limits block) =
    ap (λ ms. mask_l ms % 2 ^ 64) (tops_compared w8 ltb limits block)
    ∙ mask_l-mod (zip2 ltb limits block) 64 (omega (arith, length-zip2 ltb limits block (sym long), long)) in
    let none = below_limits big 32 block long in
    let same : mask_l (zip2 ltb limits block) ≡ mask_l (zip2 ltb (alternate (slice_index (unit_bytes big 0x7F) 0) (slice_index (unit_bytes big 0x7F) 1) 32) block) =
    ap (λ l. mask_l (zip2 ltb (alternate (slice_index l 0) (slice_index l 1) 32) block)) is in
    (λ e. none.0 (sym same ∙ sym bits ∙ eqb-true _ _ e), λ all. eq-eqb _ _ (bits ∙ same ∙ none.1 all))

-- ---- the units up to an offset

pub record AsciiTo (big : Bool) (bytes : List ℕ) (at : ℕ) : Type 0 where
  pub within : at ≤ length bytes
  pub even : at % 2 ≡ 0
  pub ascii : All is_ascii (units_of big (take at bytes))

pub AsciiTo-none : (big : Bool) (bytes : List ℕ) → AsciiTo big bytes 0
unfolding units_of
AsciiTo-none big bytes = record { within = omega arith; even = refl; ascii = All-nil is_ascii }

pub AsciiTo-next : (big : Bool) (bytes : List ℕ) (at n : ℕ) → AsciiTo big bytes at → n % 2 ≡ 0 → at + n ≤ length bytes
    → All is_ascii (units_of big (take n (drop at bytes))) → AsciiTo big bytes (at + n)
AsciiTo-next big bytes at n a even long next =
    record {
      within = long;
      even = omega arith;
      ascii = subst (All is_ascii) (sym (units_of-next big bytes at n a.even a.within)) (All-append is_ascii (units_of big (take at bytes)) _ a.ascii next);
    }

ascii_left : (xs ys : List ℕ) → All is_ascii (xs ++ ys) → All is_ascii xs
ascii_left [] ys all = All-nil is_ascii
ascii_left (x ∷ xs) ys all = All-cons is_ascii x xs (All-head is_ascii x (xs ++ ys) all) (ascii_left xs ys (All-tail is_ascii x (xs ++ ys) all))

ascii_right : (xs ys : List ℕ) → All is_ascii (xs ++ ys) → All is_ascii ys
ascii_right [] ys all = all
ascii_right (x ∷ xs) ys all = ascii_right xs ys (All-tail is_ascii x (xs ++ ys) all)

-- if all units are ASCII, so are the units of the next n bytes
pub ascii_next : (big : Bool) (bytes : List ℕ) (at n : ℕ) → AsciiTo big bytes at → n % 2 ≡ 0 → at + n ≤ length bytes
    → All is_ascii (units_of big bytes) → All is_ascii (units_of big (take n (drop at bytes)))
ascii_next big bytes at n a even long all =
    let front = ascii_left (units_of big (take (at + n) bytes)) _ (subst (All is_ascii) (units_of-split big bytes (at + n) (omega arith) long) all) in
    ascii_right (units_of big (take at bytes)) _ (subst (All is_ascii) (units_of-next big bytes at n a.even a.within) front)

-- all units are ASCII if the units of the rest are
pub ascii_rest : (big : Bool) (bytes : List ℕ) (at : ℕ) → AsciiTo big bytes at → All is_ascii (units_of big (drop at bytes)) ↔ All is_ascii (units_of big bytes)
ascii_rest big bytes at a =
    let split = units_of-split big bytes at a.even a.within in (
      λ rest. subst (All is_ascii) (sym split) (All-append is_ascii _ _ a.ascii rest),
      λ all. ascii_right (units_of big (take at bytes)) _ (subst (All is_ascii) split all),
    )

-- the next unit by itself
pub ascii_unit : (big : Bool) (bytes : List ℕ) (at unit : ℕ) → at + 2 ≤ length bytes → unit ≡ unit_of big (slice_index bytes at) (slice_index bytes (at + 1))
    → All is_ascii (units_of big (take 2 (drop at bytes))) ↔ (unit < 0x80)
ascii_unit big bytes at unit long is =
    let alone = units_of-one big bytes at long ∙ ap (λ u. u ∷ []) (sym is) in (
      λ all. All-head is_ascii unit [] (subst (All is_ascii) alone all),
      λ below. subst (All is_ascii) (sym alone) (All-cons is_ascii unit [] below (All-nil is_ascii)),
    )

pub AsciiTo-all : (big : Bool) (bytes : List ℕ) (at : ℕ) → AsciiTo big bytes at → length bytes < at + 2 → All is_ascii (units_of big bytes)
AsciiTo-all big bytes at a few = subst (All is_ascii) (sym (units_of-all big bytes at a.even a.within few)) a.ascii

-- ---- the characters

ascii_char : (c : ℕ) (units : List ℕ) → IsScalar c → All is_ascii (encode_utf16 c ++ units) ↔ ((c < 0x80) × All is_ascii units)
ascii_char c units scalar = ⊎_elim
    (λ (one : c < 0x1_0000).
    subst (λ us. All is_ascii (us ++ units) ↔ ((c < 0x80) × All is_ascii units)) (sym (one_unit c one))
    (λ all. (All-head is_ascii c units all, All-tail is_ascii c units all), λ h. All-cons is_ascii c units h.0 h.1))
    (λ (two : 0x1_0000 ≤ c).
    subst (λ us. All is_ascii (us ++ units) ↔ ((c < 0x80) × All is_ascii units)) (sym (two_units c two))
    (λ all. absurd (omega (arith, All-head is_ascii (0xD800 + (c - 0x1_0000) / 0x400) ((0xDC00 + (c - 0x1_0000) % 0x400) ∷ units) all)), λ h. absurd (omega (arith, h.0))))
    (cases_lt c 0x1_0000)

ascii_text : (text : List ℕ) → All IsScalar text → All is_ascii (flat_map encode_utf16 text) ↔ All is_ascii text
ascii_text [] scalars = (λ all. all, λ all. all)
ascii_text (c ∷ text) scalars =
    let here = ascii_char c (flat_map encode_utf16 text) (All-head IsScalar c text scalars) in
    let rest = ascii_text text (All-tail IsScalar c text scalars) in (
      λ all. let parts = here.0 all in All-cons is_ascii c text parts.0 (rest.0 parts.1),
      λ all. here.1 (All-head is_ascii c text all, rest.1 (All-tail is_ascii c text all)),
    )

pub ascii_bytes : (big : Bool) (bytes : List ℕ) → IsUtf16 big bytes → All is_ascii (units_of big bytes) ↔ All is_ascii (text_of big bytes)
ascii_bytes big bytes t = subst (λ units. All is_ascii units ↔ All is_ascii (text_of big bytes)) (sym (units_of-text big bytes t)) (ascii_text (text_of big bytes) (scalars-text_of big bytes t))
