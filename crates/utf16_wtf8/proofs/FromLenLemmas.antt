-- The length of the UTF-16 of WTF-8: what was read so far, and that it is what a call writes.
use Rattle.std.proofs.Common.{◌≡◌, ◌≢◌, ◌⊎◌, inl, inr, ℕ, ◌+◌, ◌-◌, ◌*◌, ◌<◌, ◌≤◌, Bool, true, false, List, [], ◌∷◌, ◌++◌, flat_map, length, take, drop, refl, sym, ap, ap₂, ◌∙◌, subst, ⊎_elim, arith, eqb, eq-eqb, ne_eqb, append-nil, length-append, length-drop, length-take-le, take-add, take_all, take_at}
use borrow.Rule.Slice.PartMut.{put_mid}
use Rattle.std.proofs.lemmas.Bool.{cases_lt}
use Rattle.std.proofs.lemmas.List.{take_rest}
use Rattle.std.proofs.lemmas.List.Concat.{flat_map-append}
use Rattle.std.proofs.lemmas.List.Elements.{All-append, All-cons, All-nil}
use Rattle.std.proofs.lemmas.Str.{utf8_valid_len_le}
use Rattle.std.specs.Str.{IsUtf8, IsValidUpTo, chars}
use Rattle.std.specs.Str.Lossy.{utf8_error_len, utf8_valid_len}
use Rattle.utf16_units.specs.Encoding.{char_bytes, encode, size}
use Rattle.utf16_units.specs.Unit.{IsLeading, unit_bytes}
use Rattle.utf16_units.proofs.CharLemmas.{char_size-le, length-char_bytes}
use Rattle.utf16_units.proofs.EncodingLemmas.{length-encode, size-append, size-cons, size-nil}
use Rattle.utf16_units.proofs.IllFormedLemmas.{rest_from}
use Rattle.utf16_units.proofs.UnitLemmas.{length-unit_bytes}
use Rattle.utf8_bytes.proofs.ValidLemmas.{IsValidUpTo-computed, front_valid}
use Rattle.utf16_transcode.specs.FromUtf8.{TranscodesToUtf16}
use Rattle.utf16_transcode.specs.Transcoded.{Writes}
use Rattle.utf16_transcode.specs.declared.progress.Stop.{Stop}
use Rattle.utf16_transcode.specs.declared.progress.Stop.TheVariants.{Incomplete, Done, IllFormed, NoSpace}
use Rattle.utf16_transcode.proofs.DecodesUtf8.{flat_encode}
use Rattle.utf16_wtf8.specs.FromWtf8.{BeginsWithSurrogate, HasUtf16Len, IsWrittenIfItFits, IsWtf8ValidUpTo, NextPointDoesNotFit, ReadsWtf8, StopsAfter, StopsFromWtf8, TranscodesFromWtf8, surrogate_begins}
use Rattle.utf16_wtf8.specs.Wtf8.{IsCodePoint, IsWtf8, generalized_utf8}
use Rattle.utf16_wtf8.proofs.CodeLemmas.{Follow, points-follow, spelled, spelled-unique}
use Rattle.utf16_wtf8.proofs.FromWtf8Lemmas.{Reads-none, Reads-surrogate, Reads-text, ill_formed_text, short_of, stops_after}

pub length-units : (big : Bool) (points : List ℕ) → length (flat_map (char_bytes big) points) ≡ size points
length-units big points = ap length (sym (flat_encode big points)) ∙ length-encode big points

-- ---- the loop

-- what was read so far, and the length of its UTF-16: some buffer would hold it
abbrev pub Counts : List ℕ → ℕ → ℕ → Bool → Type 0
Counts wtf8 read len leading = (to : List ℕ) × ReadsWtf8 false wtf8 to read len leading

pub Counts-none : (wtf8 : List ℕ) → Counts wtf8 0 0 false
Counts-none wtf8 = ([], Reads-none false wtf8 [])

pub size-le : (points : List ℕ) → size points ≤ 2 * length (spelled points)
size-le [] = omega (arith, size-nil)
size-le (c ∷ points) = omega (arith, size-cons c points, char_size-le c, size-le points, length-append (generalized_utf8 c) (spelled points))

-- it has at most two bytes for each byte
counted_most : (wtf8 : List ℕ) (read len : ℕ) (leading : Bool) → Counts wtf8 read len leading → len ≤ 2 * read
counted_most wtf8 read len leading counts =
    let before = counts.1 in
    omega (
      arith,
      length-take-le len counts.0 before.fits,
      ap length before.units,
      length-units false before.points,
      size-le before.points,
      ap length before.spells.spelled,
      length-take-le read wtf8 before.within,
    )

counted_fits : (wtf8 : List ℕ) (read len : ℕ) (leading : Bool) → Counts wtf8 read len leading → len ≤ 2 * length wtf8
counted_fits wtf8 read len leading counts = omega (arith, counted_most wtf8 read len leading counts, counts.1.within)

pub counted_within : (wtf8 : List ℕ) (read len : ℕ) (leading : Bool) → Counts wtf8 read len leading → read ≤ length wtf8
counted_within wtf8 read len leading counts = counts.1.within

module _ (wtf8 text : List ℕ) (read len : ℕ) (leading : Bool) (counts : Counts wtf8 read len leading)
    (is : text ≡ take (utf8_valid_len (rest_from wtf8 read)) (rest_from wtf8 read)) where
  abbrev rest : List ℕ
  rest = rest_from wtf8 read

  abbrev front : List ℕ
  front = take len counts.0

  abbrev part : List ℕ
  part = encode false (chars text)

  abbrev new : List ℕ
  new = put_mid len (length (front ++ part) - len) (front ++ part) part

  text_len : length text ≡ utf8_valid_len rest
  text_len = ap length is ∙ length-take-le (utf8_valid_len rest) rest (utf8_valid_len_le rest)

  taken : text ≡ take (length text) rest
  taken = is ∙ ap (λ n. take n rest) (sym text_len)

  front_len : length front ≡ len
  front_len = length-take-le len counts.0 counts.1.fits

  longer : ReadsWtf8 false wtf8 (front ++ part) read len leading
  longer = record {
    within = counts.1.within;
    fits = omega (arith, length-append front part, front_len);
    points = counts.1.points;
    spells = counts.1.spells;
    units = take_at front part len front_len ∙ counts.1.units;
    last = counts.1.last;
  }

  encoded : Writes (TranscodesToUtf16 false) rest part (length text) (length part)
  encoded = record {
    within = let few = utf8_valid_len_le rest in let same = text_len in omega arith;
    fits = omega arith;
    gives = (
      subst IsUtf8 (sym is ∙ taken) (front_valid rest),
      take_all (length part) part (omega arith) ∙ ap (λ t. encode false (chars t)) taken,
    );
  }

  pub Counts-text : (leads : Bool) → (length text ≡ 0 → leads ≡ leading) → (0 < length text → leads ≡ false)
      → Counts wtf8 (read + length text) (len + size (chars text)) leads
  Counts-text leads nothing some = (
    new,
    subst (λ n. ReadsWtf8 false wtf8 new (read + length text) (len + n) leads) (length-encode false (chars text))
        (Reads-text false wtf8 (front ++ part) part read len (length text) (length part) leading longer encoded (omega (arith, length-append front part, front_len)) leads nothing some),
  )

  -- after a leading surrogate, if there is one and the text is empty
  pub Counts-next : (leads : Bool) (n : ℕ) → n ≡ size (chars text) → ((leading ≡ true) × (leads ≡ eqb (length text) 0)) ⊎ ((leading ≡ false) × (leads ≡ leading))
      → Counts wtf8 (read + length text) (len + n) leads
  Counts-next leads n is how = subst (λ n. Counts wtf8 (read + length text) (len + n) leads) (sym is) (⊎_elim
      (λ (was : (leading ≡ true) × (leads ≡ eqb (length text) 0)).
      Counts-text leads (λ none. was.1 ∙ eq-eqb (length text) 0 none ∙ sym was.0) (λ some. was.1 ∙ ne_eqb (length text) 0 (λ none. omega arith)))
      (λ (wasnt : (leading ≡ false) × (leads ≡ leading)). Counts-text leads (λ none. wasnt.1) (λ some. wasnt.1 ∙ wasnt.0))
      how)

  pub text_fits : len + size (chars text) ≤ 2 * length wtf8
  text_fits = ⊎_elim
      (λ (none : length text < 1). counted_fits wtf8 _ _ leading (Counts-text leading (λ e. refl) (λ some. absurd (omega arith))))
      (λ (some : 1 ≤ length text). counted_fits wtf8 _ _ false (Counts-text false (λ e. absurd (omega arith)) (λ any. refl)))
      (cases_lt (length text) 1)

  -- the text was all, or no code point continues it
  pub ends_text : (all : ℕ) (leads : Bool) → Counts wtf8 (read + length text) all leads → surrogate_begins (rest_from wtf8 (read + length text)) ≡ false
      → (read + length text ≡ length wtf8) ⊎ IsWtf8ValidUpTo wtf8 (read + length text)
  ends_text all leads now isnt = ⊎_elim
      (λ (short : utf8_valid_len rest < length rest).
      inr (ill_formed_text false wtf8 now.0 read (length text) all 0 leads now.1 (ap surrogate_begins (sym (take_rest wtf8 (read + length text))) ∙ isnt) (utf8_error_len (drop (length text) rest))
      (subst (λ n. IsValidUpTo rest n) (sym text_len) (IsValidUpTo-computed rest short), refl)).0)
      (λ (whole : length rest ≤ utf8_valid_len rest).
      let same = text_len in
      let rest_len = ap length (take_rest wtf8 read) in
      let left = length-drop read wtf8 in
      inl (omega arith))
      (cases_lt (utf8_valid_len rest) (length rest))

module _ (wtf8 : List ℕ) (read len unit : ℕ) (leading : Bool) (counts : Counts wtf8 read len leading) where
  pub Counts-surrogate : BeginsWithSurrogate leading (rest_from wtf8 read) unit → (lead : Bool) → (lead ≡ true → IsLeading unit) → (IsLeading unit → lead ≡ true)
      → Counts wtf8 (read + 3) (len + 2) lead
  Counts-surrogate next lead only always =
      let two = unit_bytes false unit in
      let held = take len counts.0 in
      let long : length (held ++ two) ≡ len + 2 = omega (arith, length-append held two, length-unit_bytes false unit, length-take-le len counts.0 counts.1.fits) in (
        held ++ two,
        Reads-surrogate false wtf8 counts.0 read len unit leading counts.1 next (held ++ two) two (len + 2) (omega (arith, long)) refl
            (take_all (len + 2) (held ++ two) (omega (arith, long))) lead only always,
      )

  pub surrogate_fits : BeginsWithSurrogate leading (rest_from wtf8 read) unit → len + 2 ≤ 2 * length wtf8
  surrogate_fits next = omega (arith, counted_most wtf8 read len leading counts, next.within, ap length (take_rest wtf8 read), length-drop read wtf8, counts.1.within)

-- a call that does not stop for lack of space reads the longest prefix
ended : (big : Bool) (wtf8 : List ℕ) (read left : ℕ) (stop : Stop) → stop ≢ NoSpace → StopsFromWtf8 big wtf8 read left stop
    → (read ≡ length wtf8) ⊎ IsWtf8ValidUpTo wtf8 read
ended big wtf8 read left Done other here = inl here
ended big wtf8 read left (IllFormed len) other here = inr here.0
ended big wtf8 read left Incomplete other here = inr here.0
ended big wtf8 read left NoSpace other here = absurd (other refl)

not_full : (leading : Bool) (rest : List ℕ) (stop : Stop) → StopsAfter leading rest stop → stop ≢ NoSpace
not_full leading rest Done here is = absurd here
not_full leading rest (IllFormed len) here is = absurd (cc)
not_full leading rest Incomplete here is = absurd (cc)
not_full leading rest NoSpace here is = absurd here

pub ends_surrogate : (wtf8 : List ℕ) (read len : ℕ) (leading : Bool) (stop : Stop) → Counts wtf8 read len leading → surrogate_begins (rest_from wtf8 read) ≡ true
    → StopsAfter leading (rest_from wtf8 read) stop → (read ≡ length wtf8) ⊎ IsWtf8ValidUpTo wtf8 read
ends_surrogate wtf8 read len leading stop counts begins after =
    ended false wtf8 read 0 stop (not_full leading (rest_from wtf8 read) stop after)
    (stops_after false wtf8 counts.0 read len leading counts.1 0 stop (short_of wtf8 read begins) after)

pub counted_len : (wtf8 : List ℕ) (read len : ℕ) (leading : Bool) → Counts wtf8 read len leading → (read ≡ length wtf8) ⊎ IsWtf8ValidUpTo wtf8 read → HasUtf16Len wtf8 len
counted_len wtf8 read len leading counts longest = record {
  read = read;
  within = counts.1.within;
  points = counts.1.points;
  spells = counts.1.spells;
  longest = longest;
  is = sym (length-take-le len counts.0 counts.1.fits) ∙ ap length counts.1.units ∙ length-units false counts.1.points;
}

-- at most two bytes for each byte
pub utf16_len_most : (wtf8 : List ℕ) (len : ℕ) → HasUtf16Len wtf8 len → len ≤ 2 * length wtf8
utf16_len_most wtf8 len has =
    omega (arith, has.is, size-le has.points, ap length has.spells.spelled, length-take-le has.read wtf8 has.within, has.within)

-- ---- what a call writes

within_longest : (wtf8 : List ℕ) (read n : ℕ) → (read ≡ length wtf8) ⊎ IsWtf8ValidUpTo wtf8 read → n ≤ length wtf8 → IsWtf8 (take n wtf8) → n ≤ read
within_longest wtf8 read n longest within is = grind arith

module _ (wtf8 : List ℕ) (len : ℕ) (has : HasUtf16Len wtf8 len) (big : Bool) (to : List ℕ) (read written : ℕ) (wrote : Writes (TranscodesFromWtf8 big) wtf8 to read written) where
  abbrev points : List ℕ
  points = wrote.gives.points

  written_is : written ≡ size points
  written_is = sym (length-take-le written to wrote.fits) ∙ ap length wrote.gives.units ∙ length-units big points

  whole : (read ≡ length wtf8) ⊎ IsWtf8ValidUpTo wtf8 read → written ≡ len
  whole longest =
      let most = within_longest wtf8 has.read read has.longest wrote.within record { points = points; spells = wrote.gives.spells } in
      let least = within_longest wtf8 read has.read longest has.within record { points = has.points; spells = has.spells } in
      let same : read ≡ has.read = omega arith in
      written_is
      ∙ ap size (spelled-unique points has.points wrote.gives.spells.each_point has.spells.each_point
      (wrote.gives.spells.spelled ∙ ap (λ k. take k wtf8) same ∙ sym has.spells.spelled))
      ∙ sym has.is

  module _ (next : NextPointDoesNotFit big wtf8 read (length to - written)) where
    abbrev end : ℕ
    end = read + length (generalized_utf8 next.point)

    end_within : end ≤ length wtf8
    end_within = omega (arith, ap length next.begins, length-append (generalized_utf8 next.point) next.more, length-drop read wtf8, wrote.within)

    least : end ≤ has.read
    least = within_longest wtf8 has.read end has.longest end_within next.continues

    abbrev more : List ℕ
    more = points ++ next.point ∷ []

    spelled_more : spelled more ≡ take end wtf8
    spelled_more =
        flat_map-append generalized_utf8 points (next.point ∷ [])
        ∙ ap₂ (λ a b. a ++ b) wrote.gives.spells.spelled
        (append-nil (generalized_utf8 next.point) ∙ sym (ap (take (length (generalized_utf8 next.point))) next.begins ∙ take_at (generalized_utf8 next.point) next.more _ refl))
        ∙ sym (take-add read (length (generalized_utf8 next.point)) wtf8)

    follow : Follow more has.points (take (has.read - end) (drop end wtf8))
    follow =
        let enough = least in
        points-follow more has.points (take (has.read - end) (drop end wtf8))
        (All-append IsCodePoint points (next.point ∷ []) wrote.gives.spells.each_point (All-cons IsCodePoint next.point [] next.code_point (All-nil IsCodePoint)))
        has.spells.each_point
        (has.spells.spelled ∙ ap (λ k. take k wtf8) (omega arith) ∙ take-add end (has.read - end) wtf8 ∙ ap (λ b. b ++ take (has.read - end) (drop end wtf8)) (sym spelled_more))

    too_short : length to < len
    too_short = grind (arith, follow, written_is, size-append, size-cons, length-char_bytes)

pub written_if_it_fits : (wtf8 : List ℕ) (len : ℕ) → HasUtf16Len wtf8 len → IsWrittenIfItFits wtf8 len
written_if_it_fits wtf8 len has big to read written stop wrote here = (
  λ other. whole wtf8 len has big to read written wrote (ended big wtf8 read (length to - written) stop other here),
  λ full. too_short wtf8 len has big to read written wrote (subst (StopsFromWtf8 big wtf8 read (length to - written)) full here),
)
