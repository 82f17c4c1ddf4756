-- The least repertoire of a text, by its code units.
use Rattle.std.proofs.Common.{◌≡◌, ◌↔◌, ◌⊎◌, ℕ, ◌+◌, ◌-◌, ◌*◌, ◌/◌, ◌%◌, ◌<◌, ◌≤◌, Bool, List, [], ◌∷◌, ◌++◌, length, All, refl, sym, subst, inl, inr, ⊎_elim, arith, count_by, flat_map}
use Rattle.std.proofs.lemmas.Bool.{cases_lt}
use Rattle.std.proofs.lemmas.List.Elements.{All-cons, All-head, All-nil, All-tail, All-weaker}
use Rattle.std.proofs.Math.Utf8.{scalar_cases}
use Rattle.std.proofs.str.Utf16.{one_unit, two_units}
use Rattle.std.specs.Char.{IsScalar}
use Rattle.std.specs.Char.Escape.{encode_utf16}
use Rattle.std.specs.Char.Utf16.{is_low_surrogate}
use Rattle.utf16_units.specs.Encoding.{IsUtf16, size, text_of, units_of}
use Rattle.utf16_units.proofs.CharLemmas.{char_size_four, char_size_two}
use Rattle.utf16_units.proofs.CountLemmas.{counted_bytes}
use Rattle.utf16_units.proofs.EncodingLemmas.{length-text, scalars-text_of, size-cons, size-nil}
use Rattle.utf16_units.proofs.UnitsUpTo.{units_of-text}
use Rattle.utf16_fixed.specs.Repertoire.{HasAll, IsLeast, limit}
use Rattle.utf16_fixed.proofs.TextLemmas.{size-least}
use Rattle.utf16_fixed.specs.declared.repertoire.Repertoire.{Repertoire}
use Rattle.utf16_fixed.specs.declared.repertoire.Repertoire.TheVariants.{Ascii, Latin1, Bmp, Unicode}

-- all are below a limit
abbrev pub AllBelow : ℕ → List ℕ → Type 0
AllBelow limit units = All (λ unit. unit < limit) units

-- ---- limits below the surrogates: a character is below one exactly if its units are

below_char : (limit c : ℕ) (units : List ℕ) → limit ≤ 0xD800 → AllBelow limit (encode_utf16 c ++ units) ↔ ((c < limit) × AllBelow limit units)
below_char limit c units low = ⊎_elim
    (λ (one : c < 0x1_0000).
    subst (λ us. AllBelow limit (us ++ units) ↔ ((c < limit) × AllBelow limit units)) (sym (one_unit c one))
    (λ all. (All-head (λ u. u < limit) c units all, All-tail (λ u. u < limit) c units all), λ h. All-cons (λ u. u < limit) c units h.0 h.1))
    (λ (two : 0x1_0000 ≤ c).
    subst (λ us. AllBelow limit (us ++ units) ↔ ((c < limit) × AllBelow limit units)) (sym (two_units c two))
    (λ all. absurd (omega (arith, All-head (λ u. u < limit) (0xD800 + (c - 0x1_0000) / 0x400) ((0xDC00 + (c - 0x1_0000) % 0x400) ∷ units) all)), λ h. absurd (omega (arith, h.0))))
    (cases_lt c 0x1_0000)

below_text : (limit : ℕ) (text : List ℕ) → limit ≤ 0xD800 → AllBelow limit (flat_map encode_utf16 text) ↔ AllBelow limit text
below_text limit [] low = (λ all. all, λ all. all)
below_text limit (c ∷ text) low =
    let here = below_char limit c (flat_map encode_utf16 text) low in
    let rest = below_text limit text low in (
      λ all. let parts = here.0 all in All-cons (λ u. u < limit) c text parts.0 (rest.0 parts.1),
      λ all. here.1 (All-head (λ u. u < limit) c text all, rest.1 (All-tail (λ u. u < limit) c text all)),
    )

pub below_bytes : (big : Bool) (bytes : List ℕ) (limit : ℕ) → IsUtf16 big bytes → limit ≤ 0xD800 → AllBelow limit (units_of big bytes) ↔ AllBelow limit (text_of big bytes)
below_bytes big bytes limit t low = subst (λ units. AllBelow limit units ↔ AllBelow limit (text_of big bytes)) (sym (units_of-text big bytes t)) (below_text limit (text_of big bytes) low)

-- ---- a character of the Basic Multilingual Plane is one unit

one_unit_each : (text : List ℕ) → (size text ≡ 2 * length text) ↔ AllBelow 0x1_0000 text
one_unit_each [] = (λ e. All-nil (λ c. c < 0x1_0000), λ all. size-nil)
one_unit_each (c ∷ text) =
    let whole = size-cons c text in
    let rest = one_unit_each text in (
      λ e. ⊎_elim
          (λ (one : c < 0x1_0000). All-cons (λ d. d < 0x1_0000) c text one (rest.0 (omega (arith, e, whole, char_size_two c one))))
          (λ (two : 0x1_0000 ≤ c). absurd (omega (arith, e, whole, char_size_four c two, size-least text)))
          (cases_lt c 0x1_0000),
      λ all.
          omega (arith, whole, char_size_two c (All-head (λ d. d < 0x1_0000) c text all), rest.1 (All-tail (λ d. d < 0x1_0000) c text all)),
    )

-- no unit is trailing exactly if all characters are in it
pub no_trailing : (big : Bool) (bytes : List ℕ) → IsUtf16 big bytes → (count_by is_low_surrogate (units_of big bytes) ≡ 0) ↔ AllBelow 0x1_0000 (text_of big bytes)
no_trailing big bytes t =
    let each = one_unit_each (text_of big bytes) in
    let counted = counted_bytes big bytes t in
    let long = length-text big bytes t in
    (λ none. each.0 (omega (arith, none, counted, long)), λ all. omega (arith, each.1 all, counted, long))

-- ---- the least repertoire

pub all_unicode : (big : Bool) (bytes : List ℕ) → IsUtf16 big bytes → HasAll Unicode (text_of big bytes)
all_unicode big bytes t = All-weaker IsScalar (λ c. c < 0x11_0000) (λ c scalar. omega (arith, scalar_cases c scalar)) (text_of big bytes) (scalars-text_of big bytes t)

-- a repertoire has one of four limits
limits : (other : Repertoire) → (limit other ≡ 0x80) ⊎ ((limit other ≡ 0x100) ⊎ ((limit other ≡ 0x1_0000) ⊎ (limit other ≡ 0x11_0000)))
limits Ascii = inl refl
limits Latin1 = inr (inl refl)
limits Bmp = inr (inr (inl refl))
limits Unicode = inr (inr (inr refl))

-- those up to one repertoire do not have all characters, and the others are as large as `found`
least : (text : List ℕ) (smaller found : Repertoire) → HasAll found text → ¬ HasAll smaller text
    → ((other : Repertoire) → limit other < limit found → limit other ≤ limit smaller) → IsLeast text found
least text smaller found has not below = grind (arith, All-weaker, cases_lt)

pub least_unicode : (text : List ℕ) → HasAll Unicode text → ¬ HasAll Bmp text → IsLeast text Unicode
least_unicode text has not = least text Bmp Unicode has not (λ other less. omega (arith, less, limits other))

pub least_bmp : (text : List ℕ) → HasAll Bmp text → ¬ HasAll Latin1 text → IsLeast text Bmp
least_bmp text has not = least text Latin1 Bmp has not (λ other less. omega (arith, less, limits other))

pub least_latin1 : (text : List ℕ) → HasAll Latin1 text → ¬ HasAll Ascii text → IsLeast text Latin1
least_latin1 text has not = least text Ascii Latin1 has not (λ other less. omega (arith, less, limits other))

pub least_ascii : (text : List ℕ) → HasAll Ascii text → IsLeast text Ascii
least_ascii text has = record { has_all = has; least = λ other all. omega (arith, limits other) }
