-- Blocks without surrogates, and what was written of them.
use Rattle.std.proofs.Common.{◌≡◌, ℕ, All, ◌+◌, ◌<◌, ◌≤◌, Bool, false, List, [], ◌∷◌, ◌++◌, length, take, drop, slice_index, refl, sym, ap, ◌∙◌, subst, ⊎_elim, inl, inr, arith, append_assoc, Fits, w8, w16, length-append, le-ltb}
use Rattle.std.proofs.Math.Seq.{take-append_seam}
use Rattle.std.proofs.lemmas.Bool.{cases_lt, false_from_ne_true, false≢true, le-leb, lt-leb}
use Rattle.std.proofs.lemmas.List.{get_or-drop}
use Rattle.std.proofs.lemmas.List.Elements.{All-from_get_or, All-weaker}
use Rattle.std.proofs.lemmas.Simd.{Each1-from_get_or, Each1-get_or}
use lib.Lanes.{Each1}
use Rattle.utf16_units.specs.Encoding.{IsUtf16, units_of, utf8_of}
use Rattle.utf16_units.specs.Lanes.{HasNoSurrogate, IsNoSurrogate}
use Rattle.utf16_units.proofs.PairLemmas.{PairedTo-next, PairedTo-none, PairedTo-text}
use Rattle.utf16_units.proofs.PlainLemmas.{no_surrogate-paired}
use Rattle.utf16_units.proofs.UnitsUpTo.{units_of-split}
use Rattle.utf16_to_utf8.specs.Block.{AreOfKind, IsOfKind, IsPlain}
use Rattle.utf16_to_utf8.specs.Cursor.{Reached}
use Rattle.utf16_to_utf8.specs.Lanes.{is_surrogate}
use Rattle.utf16_to_utf8.specs.Utf8.{unit_utf8, units_utf8}
use Rattle.utf16_to_utf8.specs.declared.blocks.Kind.{Kind}
use Rattle.utf16_to_utf8.specs.declared.blocks.Kind.TheVariants.{Ascii, Basic, Letters, Mixed, Pairs, Wide}
use Rattle.utf16_to_utf8.specs.declared.runs.Cursor.{Cursor}
use Rattle.utf16_to_utf8.proofs.AddedLemmas.{surrogate-is, surrogate-no}
use Rattle.utf16_to_utf8.proofs.BlockLemmas.{narrow-kind}
use Rattle.utf16_to_utf8.proofs.LenLemmas.{length-units, units-fit}
use Rattle.utf16_to_utf8.proofs.ListLemmas.{units-cons, units-nil}
use Rattle.utf16_to_utf8.proofs.TextLemmas.{bytes-utf8}

plain-unit : (u : ℕ) → u < 0x1_0000 → is_surrogate u ≡ false → IsNoSurrogate u
plain-unit u below none = ⊎_elim
    (λ (low : u < 0xD800).
    let two : u < 0xDC00 = omega (arith, low) in
    (rw (lt-leb 0xD800 u low) refl, rw (lt-leb 0xDC00 u two) refl))
    (λ (from : 0xD800 ≤ u). ⊎_elim
    (λ (inside : u < 0xE000). absurd (false≢true (sym none ∙ surrogate-is u below from inside)))
    (λ (above : 0xE000 ≤ u).
    let two : 0xDC00 ≤ u = omega (arith, above) in
    (rw (le-leb 0xD800 u from, le-ltb u 0xDC00 two) refl, rw (le-leb 0xDC00 u two, le-ltb u 0xE000 above) refl))
    (cases_lt u 0xE000))
    (cases_lt u 0xD800)

plain-kind : (kind : Kind) → IsPlain kind → (u : ℕ) → u < 0x1_0000 → IsOfKind kind u → is_surrogate u ≡ false
plain-kind Ascii plain u below is = surrogate-no u below (inl (omega (arith, is)))
plain-kind Letters plain u below is = is.0
plain-kind Pairs plain u below is = absurd plain
plain-kind Wide plain u below is = false_from_ne_true (is_surrogate u) (λ e. omega (arith, is, narrow-kind u below (inr e)))
plain-kind Basic plain u below is = is
plain-kind Mixed plain u below is = absurd plain

-- no unit of a block of such a kind is a surrogate
pub plain-block : (kind : Kind) (units : List ℕ) → IsPlain kind → Each1 (Fits w16) units → AreOfKind kind units → HasNoSurrogate units
plain-block kind units plain fit are =
    All-from_get_or IsNoSurrogate units 0 (λ i lt.
    let fits = Each1-get_or (Fits w16) units i 0 lt fit in
    plain-unit (slice_index units i) fits.fits (plain-kind kind plain (slice_index units i) fits.fits (are i lt)))

-- what units add that follow others, after some last unit
pub units-after : (before : ℕ) (units more : List ℕ) → (last : ℕ) × (units_utf8 before (units ++ more) ≡ units_utf8 before units ++ units_utf8 last more)
units-after before [] more = (before, ap (λ bs. bs ++ units_utf8 before more) (sym (units-nil before)))
units-after before (u ∷ units) more =
    let behind = units-after u units more in (
      behind.0,
      units-cons before u (units ++ more) ∙ ap (λ bs. unit_utf8 before u ++ bs) behind.1
          ∙ sym (append_assoc (unit_utf8 before u) (units_utf8 u units) (units_utf8 behind.0 more))
          ∙ ap (λ bs. bs ++ units_utf8 behind.0 more) (sym (units-cons before u units)),
    )

-- of two equal lists, the parts before ends of the same length
fronts : (a b front back : List ℕ) → a ++ b ≡ front ++ back → length b ≡ length back → a ≡ front
fronts a b front back same ends =
    let long : length a ≡ length front = omega (arith, ap length same, length-append a b, length-append front back, ends) in
    sym (take-append_seam a b) ∙ ap (λ n. take n (a ++ b)) long ∙ ap (take (length front)) same ∙ take-append_seam front back

-- what was written is what the units that were read add: a unit adds the same number of bytes
-- whatever comes before it
pub written-units : (big : Bool) (raw out : List ℕ) (cursor : Cursor) → ((k : ℕ) → Fits w8 (slice_index raw k)) → Reached big raw out cursor
    → take cursor.end out ≡ units_utf8 0 (units_of big (take cursor.at raw))
written-units big raw out cursor fit reached =
    let front = units_of big (take cursor.at raw) in
    let back = units_of big (drop cursor.at raw) in
    let all = units-after 0 front back in
    let last = slice_index cursor.previous 7 in
    let same = reached.written ∙ ap (units_utf8 0) (units_of-split big raw cursor.at reached.even reached.within) ∙ all.1 in
    let fit_back = units-fit big (drop cursor.at raw) (Each1-from_get_or (Fits w8) (drop cursor.at raw) 0 (λ k lt. subst (Fits w8) (sym (get_or-drop cursor.at raw k 0)) (fit (cursor.at + k)))) in
    fronts (take cursor.end out) (units_utf8 last back) (units_utf8 0 front) (units_utf8 all.0 back) same (length-units last back fit_back ∙ sym (length-units all.0 back fit_back))

-- if they are a text, what was written is its UTF-8
pub written-text : (big : Bool) (raw out : List ℕ) (cursor : Cursor) → ((k : ℕ) → Fits w8 (slice_index raw k)) → Reached big raw out cursor
    → IsUtf16 big (take cursor.at raw) → take cursor.end out ≡ utf8_of big (take cursor.at raw)
written-text big raw out cursor fit reached text = written-units big raw out cursor fit reached ∙ bytes-utf8 big (take cursor.at raw) text

-- sixteen bytes of ASCII are a text
pub ascii-text : (big : Bool) (raw : List ℕ) → ((k : ℕ) → Fits w8 (slice_index raw k)) → 16 ≤ length raw → All (λ u. u < 0x80) (units_of big (take 16 raw))
    → IsUtf16 big (take 16 raw)
ascii-text big raw fits long all =
    let none : HasNoSurrogate (units_of big (take 16 raw)) =
    All-weaker (λ u. u < 0x80) IsNoSurrogate (λ u low. plain-unit u (omega (arith, low)) (surrogate-no u (omega (arith, low)) (inl (omega (arith, low)))))
    (units_of big (take 16 raw)) all in
    PairedTo-text big raw 16 fits false refl (PairedTo-next big raw 0 16 false false (PairedTo-none big raw) refl long (no_surrogate-paired _ none))
