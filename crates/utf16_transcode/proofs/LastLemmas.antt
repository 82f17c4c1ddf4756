-- The last code units of a text that are ASCII may be written once more.
use Rattle.std.proofs.Common.{◌≡◌, ℕ, All, ◌+◌, ◌-◌, ◌*◌, ◌/◌, ◌%◌, ◌<◌, ◌≤◌, Bool, List, [], ◌∷◌, ◌++◌, encode_utf8_all, length, take, drop, refl, sym, ap, ◌∙◌, subst, arith, append-nil, drop_at, length-append, length-drop, length-take-le, take-add, take-take, take_at}
use Rattle.std.proofs.lemmas.List.{length-take}
use Rattle.std.proofs.lemmas.List.Concat.{flat_map-append}
use Rattle.std.proofs.lemmas.List.Elements.{All-head, All-take}
use Rattle.std.proofs.lemmas.Str.{chars-encodes}
use Rattle.std.specs.Char.{encode_utf8}
use Rattle.std.specs.Str.{chars}
use Rattle.utf16_units.specs.Encoding.{IsUtf16, encode, size, text_of, units_of, utf8_of}
use Rattle.utf16_units.specs.Unit.{IsTrailing}
use Rattle.utf16_units.proofs.BackChar.{length-even}
use Rattle.utf16_units.proofs.BoundaryLemmas.{Encodes-to, IsBoundary-at_unit}
use Rattle.utf16_units.proofs.EncodingLemmas.{IsUtf16-from_Encodes, IsUtf16-rest, all_scalars-from_All, length-encode, length-text, scalars-text_of, text_of-append}
use Rattle.utf16_units.proofs.FirstChar.{first_unit}
use Rattle.utf16_units.proofs.SizeLemmas.{size-le}
use Rattle.utf16_units.proofs.UnitsUpTo.{length-units_of, units_of-front}
use Rattle.utf16_transcode.specs.Transcoded.{TranscodesToUtf8, Writes}
use Rattle.utf16_transcode.proofs.AsciiLemmas.{ascii_bytes-utf8}
use Rattle.utf16_transcode.proofs.DecodePrefixLemmas.{utf8_given}

abbrev is_ascii : ℕ → Type 0
is_ascii unit = unit < 0x80

-- what comes before ASCII at the end of a text is a text
front_text : (big : Bool) (front rest : List ℕ) → length front % 2 ≡ 0 → All is_ascii (units_of big rest) → IsUtf16 big (front ++ rest) → IsUtf16 big front
unfolding units_of
front_text big front [] even ascii text = subst (IsUtf16 big) (append-nil front) text
front_text big front (x ∷ []) even ascii text = absurd (omega (arith, even, length-even big _ text, length-append front (x ∷ [])))
front_text big front (x ∷ y ∷ more) even ascii text =
    let rest = x ∷ y ∷ more in
    let cs = text.text in
    let spelled = text.encodes.spelled in
    let at = length front in
    let behind : drop at (encode big cs) ≡ rest = ap (drop at) spelled ∙ drop_at front rest at refl in
    let low = All-head is_ascii _ _ ascii in
    let within : at < size cs = omega (arith, length-encode big cs, ap length spelled, length-append front rest) in
    let boundary = IsBoundary-at_unit big cs at text.encodes.scalars even within
    (λ trailing. omega (arith, low, (subst (λ t. IsTrailing (first_unit big t)) behind trailing).0)) in
    subst (IsUtf16 big) (take_at front rest at refl) (IsUtf16-from_Encodes big _ _ (Encodes-to big cs (front ++ rest) at text.encodes boundary))

-- a text has no more than half as many units as its UTF-8 has bytes
pub written_half : (big : Bool) (raw to : List ℕ) (read written : ℕ) → Writes (TranscodesToUtf8 big) raw to read written → read ≤ 2 * written
written_half big raw to read written before =
    let front = take read raw in
    let utf8 = take written to in
    let gives = before.gives in
    let same = ap chars gives.1 ∙ chars-encodes (text_of big front) (all_scalars-from_All (text_of big front) (scalars-text_of big front gives.0)) in
    omega (arith, ap size same, size-le utf8 (utf8_given big front utf8 gives), length-text big front gives.0, length-take-le read raw before.within, length-take-le written to before.fits)

-- where what was read ends in ASCII, as many bytes as that has units are taken back
module _ (big : Bool) (raw to : List ℕ) (read written start m : ℕ) (before : Writes (TranscodesToUtf8 big) raw to read written) (first : start ≤ read) (even : start % 2 ≡ 0)
    (last : read ≤ start + m) (ascii : All is_ascii (units_of big (take m (drop start raw)))) where
  abbrev n : ℕ
  n = read - start

  abbrev front : List ℕ
  front = take start raw

  abbrev rest : List ℕ
  rest = take n (drop start raw)

  parts : take read raw ≡ front ++ rest
  parts =
      let sum : read ≡ start + n = omega (arith, first) in
      ap (λ k. take k raw) sum ∙ take-add start n raw

  long : length front ≡ start
  long = length-take-le start raw (omega (arith, first, before.within))

  text : IsUtf16 big (front ++ rest)
  text = subst (IsUtf16 big) parts before.gives.0

  low : All is_ascii (units_of big rest)
  low =
      let run = take m (drop start raw) in
      let behind = length-drop start raw in
      let many = length-take-le n (drop start raw) (omega (arith, behind, before.within)) in
      let whole : 2 * (n / 2) ≡ n = omega (arith, even, length-even big _ text, length-append front rest, long, many, first) in
      let same : take (2 * (n / 2)) run ≡ rest = ap (λ k. take k run) whole ∙ take-take n m (drop start raw) (omega (arith, last)) in
      let within : 2 * (n / 2) ≤ length run = omega (arith, whole, length-take m (drop start raw), behind, last, before.within) in
      subst (λ t. All is_ascii (units_of big t)) same
      (subst (All is_ascii) (units_of-front big run (n / 2) within) (All-take is_ascii (n / 2) _ ascii))

  front_is_text : IsUtf16 big front
  front_is_text = front_text big front rest (omega (arith, even, long)) low text

  utf8 : take written to ≡ utf8_of big front ++ units_of big rest
  utf8 =
      before.gives.1 ∙ ap (utf8_of big) parts ∙ ap encode_utf8_all (text_of-append big front rest front_is_text) ∙ flat_map-append encode_utf8 (text_of big front) (text_of big rest)
      ∙ ap (λ t. utf8_of big front ++ t) (sym (ascii_bytes-utf8 big rest (IsUtf16-rest big front rest front_is_text text) low))

  sum : length (utf8_of big front) + n / 2 ≡ written
  sum = omega (
    arith,
    ap length utf8,
    length-append (utf8_of big front) (units_of big rest),
    length-units_of big rest,
    length-take-le n (drop start raw) (omega (arith, length-drop start raw, before.within)),
    length-take-le written to before.fits,
  )

  pub taken_back : (end : ℕ) → end + (read - start) / 2 ≡ written → Writes (TranscodesToUtf8 big) raw to start end
  taken_back end is =
      let k = length (utf8_of big front) in
      let same : end ≡ k = omega (arith, sum, is) in
      record {
        within = omega (arith, first, before.within);
        fits = omega (arith, is, before.fits);
        gives = (
          front_is_text,
          ap (λ m. take m to) same ∙ sym (take-take k written to (omega (arith, sum))) ∙ ap (take k) utf8 ∙ take_at (utf8_of big front) (units_of big rest) k refl,
        );
      }
