-- Lossy UTF-16 of UTF-32: a text that was written, and U+FFFD for the code unit that follows it.
use Rattle.std.proofs.Common.{◌≡◌, ℕ, ◌-◌, ◌*◌, ◌<◌, ◌≤◌, ◌⊎◌, inl, inr, ⊎_elim, true≢false, Bool, List, [], ◌∷◌, ◌++◌, length, take, drop, slice_index, refl, sym, ap, ◌∙◌, arith, length-drop, length-take-le, ◌+◌, subst, Some}
use Rattle.std.proofs.lemmas.Bool.{cases_Bool, cond-false, cond-true, false_from_ne_true}
use Rattle.std.proofs.lemmas.List.{drop_all, length-map, map-append, take_rest}
use Rattle.std.proofs.lemmas.List.Elements.{All-head, All-tail}
use borrow.Rule.Slice.PartMut.{put_mid}
use Rattle.std.specs.Char.{IsScalar}
use Rattle.utf16_units.specs.Encoding.{char_bytes}
use Rattle.utf16_units.specs.Unit.{unit_bytes}
use Rattle.utf16_units.proofs.CharLemmas.{char_size_cases, length-char_bytes, one_unit_bytes}
use Rattle.utf16_units.proofs.EncodingLemmas.{encode-append, encode-nil, encode-one, length-encode}
use Rattle.utf16_transcode.specs.Stops.{StopsLossy, TextDoesNotFit, Stops}
use Rattle.utf16_transcode.specs.Transcoded.{Joins, Writes}
use Rattle.utf16_units.proofs.IllFormedLemmas.{rest_from}
use Rattle.utf16_transcode.proofs.StreamSteps.{rest_after}
use Rattle.utf16_transcode.proofs.TranscodedLemmas.{Writes-then, put_end-long}
use Rattle.utf16_transcode.specs.declared.progress.Stop.{Stop}
use Rattle.utf16_transcode.specs.declared.progress.Stop.TheVariants.{Incomplete, Done, IllFormed, NoSpace}
use Rattle.utf16_fixed.specs.Stops32.{IsIllFormedUtf32}
use Rattle.utf16_fixed.specs.Utf32.{IsUtf32, ShowsInUtf16, TranscodesFromUtf32, lossy_unit, lossy_utf32, utf32_units}
use Rattle.utf16_fixed.proofs.PartLemmas.{Writes-rest}
use Rattle.utf16_fixed.proofs.ValidLemmas.{other_after}
use Rattle.utf16_fixed.proofs.TextLemmas.{size-most}

-- a scalar value is its own character, and U+FFFD that of another code unit
pub lossy_unit-scalar : (unit : ℕ) → IsScalar unit → lossy_unit unit ≡ unit
lossy_unit-scalar unit scalar = cond-true _ _ _ scalar

pub lossy_unit-other : (unit : ℕ) → ¬ IsScalar unit → lossy_unit unit ≡ 0xFFFD
lossy_unit-other unit other = cond-false _ _ _ (false_from_ne_true _ other)

pub scalar_or_not : (unit : ℕ) → IsScalar unit ⊎ (¬ IsScalar unit)
scalar_or_not unit = ⊎_elim (λ (yes : IsScalar unit). inl yes) (λ no. inr (λ yes. true≢false (sym yes ∙ no))) (cases_Bool _)

lossy_utf32-text : (text : List ℕ) → IsUtf32 text → lossy_utf32 text ≡ text
lossy_utf32-text [] scalars = refl
lossy_utf32-text (c ∷ text) scalars = grind (arith, lossy_unit-scalar, All-head, All-tail, lossy_utf32-text text (All-tail IsScalar c text scalars))

pub shown_joins : (big : Bool) → Joins (ShowsInUtf16 big)
shown_joins big front back into more first second = grind (arith, encode-append, map-append)

pub shown_empty : (big : Bool) → ShowsInUtf16 big [] []
shown_empty big = sym (encode-nil big)

-- a text was written
pub shown_text : (big : Bool) (units to : List ℕ) (n w : ℕ) → Writes (TranscodesFromUtf32 big) units to n w → Writes (ShowsInUtf16 big) units to n w
shown_text big units to n w wrote = grind (arith, lossy_utf32-text)

-- U+FFFD was written for the first code unit
pub shown_other : (big : Bool) (rest : List ℕ) → 0 < length rest → ¬ IsScalar (slice_index rest 0) → ShowsInUtf16 big (take 1 rest) (unit_bytes big 0xFFFD)
shown_other big [] some other = absurd (omega (arith, some))
shown_other big (u ∷ rest) some other = grind (arith, lossy_unit-other, encode-one, one_unit_bytes)

-- or it does not fit
pub other_does_not_fit : (big : Bool) (rest : List ℕ) (left : ℕ) → 0 < length rest → ¬ IsScalar (slice_index rest 0) → left < 2
    → TextDoesNotFit (char_bytes big) (lossy_utf32 rest) left
other_does_not_fit big [] left some other few = absurd (omega (arith, some))
other_does_not_fit big (u ∷ rest) left some other few = grind (arith, lossy_unit-other, length-char_bytes, char_size_cases)

-- why a call stopped, if not at an ill-formed code unit
pub stops_lossy_from_utf32 : (big : Bool) (units : List ℕ) (n left : ℕ) (stop : Stop) → ((len : ℕ) → ¬ (stop ≡ IllFormed len)) → Stops utf32_units (char_bytes big) IsIllFormedUtf32 units n left stop
    → StopsLossy lossy_utf32 (char_bytes big) (drop n units) left stop
stops_lossy_from_utf32 big units n left Done other here = drop_all n units (omega (arith, here))
stops_lossy_from_utf32 big units n left (IllFormed len) other here = absurd (other len refl)
stops_lossy_from_utf32 big units n left Incomplete other here = absurd here
stops_lossy_from_utf32 big units n left NoSpace other here = grind (arith, lossy_unit-scalar)

-- four bytes for every code unit suffice
pub from_utf32_lossy_fits : (big : Bool) (units to : List ℕ) (read written : ℕ) (stop : Stop) → Writes (ShowsInUtf16 big) units to read written
    → StopsLossy lossy_utf32 (char_bytes big) (drop read units) (length to - written) stop → 4 * length units ≤ length to → stop ≡ Done
from_utf32_lossy_fits big units to read written Done wrote here room = refl
from_utf32_lossy_fits big units to read written NoSpace wrote here room =
    let text = lossy_utf32 (take read units) in
    absurd (omega (
      arith,
      room,
      sym (length-take-le written to wrote.fits) ∙ ap length wrote.gives ∙ length-encode big text,
      size-most text,
      length-map (take read units) lossy_unit,
      length-take-le read units wrote.within,
      sym (length-drop read units) ∙ sym (length-map (drop read units) lossy_unit) ∙ ap length here.begins,
      length-char_bytes big here.char,
      char_size_cases here.char,
      here.too_long,
    ))
from_utf32_lossy_fits big units to read written stop wrote here room = absurd here

-- a call on the rest of the code units and of the buffer
module _ (big : Bool) (units old part : List ℕ) (read at n w : ℕ) (before : Writes (ShowsInUtf16 big) units old read at)
    (front : Writes (TranscodesFromUtf32 big) (rest_from units read) part n w) (long : length part ≡ length old - at) where
  abbrev new : List ℕ
  new = put_mid at (length old - at) old part

  -- its text was written
  pub shown_rest : Writes (ShowsInUtf16 big) units new (read + n) (at + w)
  shown_rest = Writes-rest (shown_joins big) units old part read at n w before (shown_text big (rest_from units read) part n w front) long

  -- why it stopped, if not at an ill-formed code unit
  pub stops_shown : (stop : Stop) → ((len : ℕ) → ¬ (stop ≡ IllFormed len)) → Stops utf32_units (char_bytes big) IsIllFormedUtf32 (rest_from units read) n (length part - w) stop
      → StopsLossy lossy_utf32 (char_bytes big) (drop (read + n) units) (length new - (at + w)) stop
  stops_shown stop other here = grind (arith, put_end-long, rest_after, take_rest, stops_lossy_from_utf32, rest_from)

  module _ (len : ℕ) (found : IsIllFormedUtf32 (rest_from units read) n (Some len)) where
    -- U+FFFD does not fit
    pub full_before_other : length new - (at + w) < 2 → 4 * length units ≤ length new → NoSpace ≡ Done
    full_before_other few =
        let next = other_after units read n len found in
        from_utf32_lossy_fits big units new (read + n) (at + w) NoSpace shown_rest
        (subst (λ rest. TextDoesNotFit (char_bytes big) (lossy_utf32 rest) (length new - (at + w))) (take_rest units (read + n))
        (other_does_not_fit big (rest_from units (read + n)) (length new - (at + w)) next.0 next.1 few))

    -- or it was appended
    pub shown_marked : (marked : List ℕ) (end : ℕ) → end ≤ length marked → take end marked ≡ take (at + w) new ++ unit_bytes big 0xFFFD
        → Writes (ShowsInUtf16 big) units marked (read + n + 1) end
    shown_marked marked end room bytes =
        let next = other_after units read n len found in
        Writes-then (shown_joins big) units new marked (read + n) (at + w) 1 end shown_rest
        (record {
          within = omega (arith, next.0);
          fits = room;
          added = unit_bytes big 0xFFFD;
          gives = shown_other big (rest_from units (read + n)) next.0 next.1;
          bytes = bytes;
        })
