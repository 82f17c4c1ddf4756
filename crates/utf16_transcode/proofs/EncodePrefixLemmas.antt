-- The prefix of a text that ends at a boundary of its UTF-16.
use Rattle.std.proofs.Common.{◌≡◌, ◌⊎◌, inl, inr, ⊎_elim, ℕ, ◌-◌, ◌%◌, ◌<◌, ◌≤◌, Bool, List, [], ◌∷◌, ◌++◌, length, take, drop, encode_utf8_all, refl, sym, ap, ap₂, ◌∙◌, subst, All, arith, take_at, take-append-drop, length-append, length-take-le}
use Rattle.std.proofs.lemmas.Bool.{cases_lt}
use Rattle.std.proofs.lemmas.List.Concat.{flat_map-append}
use Rattle.std.proofs.lemmas.Str.{chars-append, chars-encodes}
use Rattle.std.specs.Char.{IsScalar, encode_utf8}
use Rattle.std.specs.Str.{IsUtf8, chars}
use Rattle.utf16_units.specs.Boundary.{IsBoundary}
use Rattle.utf16_units.specs.Encoding.{Encodes, IsUtf16, char_size, encode, size, text_of, utf8_of}
use Rattle.utf16_units.proofs.FirstChar.{first_unit}
use Rattle.utf16_units.specs.Unit.{IsTrailing}
use Rattle.utf16_units.proofs.BackChar.{boundary_is}
use Rattle.utf16_units.proofs.BoundaryLemmas.{Encodes-to, IsBoundary-start, IsBoundary-within, text_to-front}
use Rattle.utf16_units.proofs.CharLemmas.{char_size_cases}
use Rattle.utf16_units.proofs.EncodingLemmas.{All-before, All-from_all_scalars, all_scalars-from_All, length-encode, length-text, size-cons, size-nil, text_of-Encodes}
use Rattle.utf16_transcode.specs.Transcoded.{Writes}
use Rattle.utf16_transcode.specs.FromUtf8.{TranscodesToUtf16}

-- a boundary after one more character
one_more : (c : ℕ) (text : List ℕ) (i : ℕ) → char_size c ≤ i → IsBoundary text (i - char_size c) → IsBoundary (c ∷ text) i
one_more c text i fits b = record {
  front = c ∷ b.front;
  back = b.back;
  split = ap (λ t. c ∷ t) b.split;
  offset = omega (arith, size-cons c b.front, b.offset, fits);
}

-- an even offset is a boundary, or lies in a surrogate pair, which begins at one
even_boundary : (text : List ℕ) (i : ℕ) → i % 2 ≡ 0 → i ≤ size text → IsBoundary text i ⊎ ((2 ≤ i) × IsBoundary text (i - 2))
even_boundary [] i even within =
    let start : 0 ≡ i = omega (arith, within, size-nil) in
    inl (subst (IsBoundary []) start (IsBoundary-start []))
even_boundary (c ∷ text) i even within =
    let first = char_size_cases c in
    ⊎_elim
    (λ (short : i < char_size c). ⊎_elim
    (λ (start : i < 2).
    let none : 0 ≡ i = omega (arith, even, start) in
    inl (subst (IsBoundary (c ∷ text)) none (IsBoundary-start (c ∷ text))))
    (λ (inside : 2 ≤ i).
    let none : 0 ≡ i - 2 = omega (arith, even, short, inside, first) in
    inr (inside, subst (IsBoundary (c ∷ text)) none (IsBoundary-start (c ∷ text))))
    (cases_lt i 2))
    (λ (fits : char_size c ≤ i). ⊎_elim
    (λ (here : IsBoundary text (i - char_size c)). inl (one_more c text i fits here))
    (λ (before : (2 ≤ i - char_size c) × IsBoundary text (i - char_size c - 2)).
    let same : i - char_size c - 2 ≡ i - 2 - char_size c = omega arith in
    inr (omega (arith, before.0), one_more c text (i - 2) (omega (arith, before.0, fits)) (subst (IsBoundary text) same before.1)))
    (even_boundary text (i - char_size c) (omega (arith, even, fits, first)) (omega (arith, within, fits, size-cons c text))))
    (cases_lt i (char_size c))

-- inside a surrogate pair there is no boundary
pub no_boundary : (big : Bool) (raw : List ℕ) (i : ℕ) → IsUtf16 big raw → i < length raw → IsTrailing (first_unit big (drop i raw)) → ¬ (IsBoundary (text_of big raw) i)
no_boundary big raw i utf16 within trailing here = ⊎_elim
    (λ (end : i ≡ length raw). omega (arith, end, within))
    (λ (unit : (i < length raw) × (i % 2 ≡ 0) × ¬ (IsTrailing (first_unit big (drop i raw)))). unit.2 trailing)
    (boundary_is big raw i utf16 here)

-- the last boundary before an offset in UTF-16 that is inside a surrogate pair
pub boundary_before : (big : Bool) (raw : List ℕ) (i : ℕ) → IsUtf16 big raw → i % 2 ≡ 0 → i < length raw → IsTrailing (first_unit big (drop i raw))
    → (2 ≤ i) × IsBoundary (text_of big raw) (i - 2)
boundary_before big raw i utf16 even within trailing = ⊎_elim
    (λ (here : IsBoundary (text_of big raw) i). absurd (no_boundary big raw i utf16 within trailing here))
    (λ (before : (2 ≤ i) × IsBoundary (text_of big raw) (i - 2)). before)
    (even_boundary (text_of big raw) i even (omega (arith, within, length-text big raw utf16)))

-- the characters of a text encode to it
spelled : (utf8 : List ℕ) → IsUtf8 utf8 → encode_utf8_all (chars utf8) ≡ utf8
spelled utf8 u = ap encode_utf8_all (ap chars (sym u.1.1) ∙ chars-encodes u.0 u.1.0) ∙ u.1.1

-- UTF-16 that was written encodes the characters of the UTF-8
pub encoded : (big : Bool) (utf8 raw : List ℕ) → TranscodesToUtf16 big utf8 raw → Encodes big (chars utf8) raw
encoded big utf8 raw gives =
    let u = gives.0 in
    record { scalars = subst (All IsScalar) (sym (ap chars (sym u.1.1) ∙ chars-encodes u.0 u.1.0)) (All-from_all_scalars u.0 u.1.0); spelled = sym gives.1 }

-- the UTF-8 of the characters before a boundary of the UTF-16
pub prefix_to_utf16 : (big : Bool) (utf8 raw : List ℕ) (end : ℕ) → TranscodesToUtf16 big utf8 raw → IsBoundary (chars utf8) end
    → Writes (TranscodesToUtf16 big) utf8 raw (length (utf8_of big (take end raw))) end
prefix_to_utf16 big utf8 raw end gives at =
    let text = chars utf8 in
    let all = encoded big utf8 raw gives in
    let encodes = Encodes-to big text raw end all at in
    let front = at.front in
    let first : text_of big (take end raw) ≡ front = text_of-Encodes big _ _ encodes ∙ text_to-front text end at in
    let len : length (utf8_of big (take end raw)) ≡ length (encode_utf8_all front) = ap (λ t. length (encode_utf8_all t)) first in
    let valid = all_scalars-from_All front (All-before front at.back (subst (All IsScalar) (sym at.split) all.scalars)) in
    let parts : utf8 ≡ encode_utf8_all front ++ encode_utf8_all at.back =
    sym (spelled utf8 gives.0) ∙ ap encode_utf8_all (sym at.split) ∙ flat_map-append encode_utf8 front at.back in
    let same : take (length (utf8_of big (take end raw))) utf8 ≡ encode_utf8_all front =
    ap₂ take len parts ∙ take_at (encode_utf8_all front) (encode_utf8_all at.back) (length (encode_utf8_all front)) refl in
    record {
      within = omega (arith, len, ap length parts, length-append (encode_utf8_all front) (encode_utf8_all at.back));
      fits = omega (arith, IsBoundary-within text end at, ap length gives.1, length-encode big text);
      gives = (
        subst IsUtf8 (sym same) (front, (valid, refl)),
        sym encodes.spelled ∙ ap (encode big) (text_to-front text end at ∙ sym (ap chars same ∙ chars-encodes front valid)),
      );
    }

-- where a prefix of the text ends, the UTF-16 has a boundary
pub boundary_of : (big : Bool) (utf8 raw : List ℕ) (read end : ℕ) → TranscodesToUtf16 big utf8 raw → Writes (TranscodesToUtf16 big) utf8 raw read end
    → IsBoundary (chars utf8) end
boundary_of big utf8 raw read end gives wrote =
    let front = take read utf8 in
    record {
      front = chars front;
      back = chars (drop read utf8);
      split = sym (chars-append front (drop read utf8) wrote.gives.0) ∙ ap chars (take-append-drop read utf8);
      offset = omega (arith, length-encode big (chars front), ap length wrote.gives.1, length-take-le end raw wrote.fits);
    }
