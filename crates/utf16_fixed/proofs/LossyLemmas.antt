-- Lossy decoding to UTF-32: a text that was written, and U+FFFD for the ill-formed sequence that
-- follows it.
use Rattle.std.proofs.Common.{◌≡◌, ◌≢◌, ℕ, ◌+◌, ◌<◌, ◌≤◌, Bool, List, [], ◌∷◌, ◌++◌, Some, length, map, take, drop, slice_set, flat_map, refl, sym, ap, ap₂, ◌∙◌, arith, length-drop, take-append-drop, subst}
use Rattle.std.proofs.lemmas.List.{drop-drop, length-set, map-id, take_more_set, take_rest}
use Rattle.std.proofs.lemmas.List.Concat.{flat_map_single}
use Rattle.std.proofs.lemmas.Str.{len_utf8_bounds, length-encode}
use Rattle.std.specs.Char.{encode_utf8}
use Rattle.utf16_units.specs.IllFormed.{IsIllFormedAt, IsIncomplete}
use Rattle.utf16_units.specs.Split.{Item, good, lossy_chars, lossy_text, split_items, split_tail, whole_lossy_chars}
use Rattle.utf16_units.proofs.EncodingLemmas.{IsUtf16-nil, text_of-nil}
use Rattle.utf16_units.proofs.FirstChar.{AreBytes, first_unit}
use Rattle.utf16_units.proofs.RecipeLemmas.{lossy_char-lone_item, lossy_chars-good, two}
use Rattle.utf16_units.proofs.SplitIllFormed.{AreBytes-drop, lone_item, split_items-fault, split_tail-fault}
use Rattle.utf16_units.proofs.SplitJoin.{split_items-text, split_tail-text}
use Rattle.utf16_transcode.specs.Decodes.{utf16_split}
use Rattle.utf16_transcode.specs.StreamSplit.{decided}
use Rattle.utf16_transcode.specs.Stops.{IsIllFormedUtf16, TextDoesNotFit, Stops, StopsPartial}
use Rattle.utf16_transcode.specs.Transcoded.{Writes}
use Rattle.utf16_transcode.specs.declared.progress.Stop.{Stop}
use Rattle.utf16_transcode.specs.declared.progress.Stop.TheVariants.{IllFormed, NoSpace}
use Rattle.utf16_transcode.proofs.DecodesSteps.{Decodes-then}
use Rattle.utf16_units.proofs.IllFormedLemmas.{rest_from}
use Rattle.utf16_units.specs.Encoding.{char_bytes}
use Rattle.utf16_transcode.proofs.StreamSteps.{rest_after}
use Rattle.utf16_transcode.proofs.DecodeLossyLemmas.{ill_formed_there, some_left, stops_lossy}
use Rattle.utf16_transcode.proofs.ToUtf8Lemmas.{faults_there}
use Rattle.utf16_transcode.proofs.ToUtf8Parts.{tail_text}
use Rattle.utf16_fixed.specs.Stops32.{DecodesToUtf32}
use Rattle.utf16_fixed.specs.Utf32.{TranscodesToUtf32, utf32_units}

-- a text is its own code units
pub units_of_text : (text : List ℕ) → flat_map utf32_units text ≡ text
units_of_text text = flat_map_single (λ c. c) text ∙ map-id text

-- a text at the start was written
pub DecodesToUtf32-text : (big : Bool) (raw to : List ℕ) (n w : ℕ) → Writes (TranscodesToUtf32 big) raw to n w → DecodesToUtf32 big raw to n w
DecodesToUtf32-text big raw to n w wrote =
    let text = take w to in
    let whole = take-append-drop n raw in
    record {
      within = wrote.within;
      fits = wrote.fits;
      decodes = record {
        taken = map good text;
        items = ap (split_items big) (sym whole) ∙ split_items-text big text (take n raw) (drop n raw) wrote.gives;
        tail = ap (split_tail big) (sym whole) ∙ split_tail-text big text (take n raw) (drop n raw) wrote.gives;
        text = sym (units_of_text (lossy_chars (map good text)) ∙ lossy_chars-good text);
      };
    }

-- one code point does not fit
full_before : (into : ℕ → List ℕ) (text : List ℕ) (k left : ℕ) → TextDoesNotFit into text k → left < 1 → TextDoesNotFit utf32_units text left
full_before into text k left next full = record { char = next.char; more = next.more; begins = next.begins; too_long = full }

-- why a call stopped, if not at an ill-formed sequence
pub stops_lossy_to_utf32 : (big : Bool) (raw : List ℕ) (n left : ℕ) (stop : Stop) → ((len : ℕ) → ¬ (stop ≡ IllFormed len)) → Stops (char_bytes big) utf32_units (IsIllFormedUtf16 big) raw n left stop
    → StopsPartial (utf16_split big) utf32_units (drop n raw) left stop
stops_lossy_to_utf32 big raw n left (IllFormed len) other here = absurd (other len refl)
stops_lossy_to_utf32 big raw n left NoSpace other here =
    let size : 0 < length (encode_utf8 here.char) = omega (arith, length-encode here.char, len_utf8_bounds here.char) in
    full_before encode_utf8 _ 0 left
    (stops_lossy big raw n 0 NoSpace other (record { char = here.char; more = here.more; scalar = here.scalar; begins = here.begins; too_long = size })) here.too_long
stops_lossy_to_utf32 big raw n left stop other here = stops_lossy big raw n left stop other here

-- a unit that more bytes can't change is whole
two_bytes : (big : Bool) (rest : List ℕ) → 0 < length rest → ¬ (IsIncomplete big rest) → 2 ≤ length rest
two_bytes big [] some whole = absurd (omega (arith, some))
two_bytes big (last ∷ []) some whole = absurd (whole tt)
two_bytes big (first ∷ second ∷ after) some whole = omega arith

-- an ill-formed sequence that a call on the rest found
module _ (big : Bool) (raw : List ℕ) (read n len : ℕ) (found : IsIllFormedUtf16 big (rest_from raw read) n (Some len)) where
  pub found_within : read + n < length raw
  found_within = omega (arith, some_left big _ _ _ found, ap length (take_rest raw read), length-drop read raw)

  pub found_at : IsIllFormedAt big (drop (read + n) raw) (Some len)
  found_at =
      subst (λ rest. IsIllFormedAt big rest (Some len)) (rest_after raw read n ∙ take_rest raw (read + n)) (ill_formed_there big _ _ _ found)

-- an ill-formed sequence at the start of the rest
module _ (big : Bool) (raw : List ℕ) (read len : ℕ) (are : AreBytes raw) (some : read < length raw) (here : IsIllFormedAt big (drop read raw) (Some len)) where
  rest : List ℕ
  rest = drop read raw

  found : IsIllFormedUtf16 big rest 0 (Some len)
  unfolding rest
  found = faults_there big rest 0 (Some len) (omega (arith, length-drop read raw, some)) (IsUtf16-nil big) here

  lone : Item
  lone = lone_item (first_unit big rest)

  after : drop 2 rest ≡ drop (read + len) raw
  unfolding rest
  after = drop-drop 2 read raw ∙ ap (λ k. drop (read + k) raw) (sym here.1.0)

  items_here : split_items big rest ≡ lone ∷ split_items big (drop (read + len) raw)
  unfolding rest lone
  items_here =
      split_items-fault big rest 0 (AreBytes-drop read raw are) (two found.1) found.0
      ∙ ap₂ (λ text b. map good text ++ lone ∷ split_items big b) (text_of-nil big) after

  tail_here : split_tail big rest ≡ split_tail big (drop (read + len) raw)
  unfolding rest
  tail_here = split_tail-fault big rest 0 (AreBytes-drop read raw are) (two found.1) found.0 ∙ ap (split_tail big) after

  -- U+FFFD was written
  pub DecodesToUtf32-lone : (to : List ℕ) (at : ℕ) → DecodesToUtf32 big raw to read at → at < length to → DecodesToUtf32 big raw (slice_set to at 0xFFFD) (read + len) (at + 1)
  unfolding rest lone
  DecodesToUtf32-lone to at before room = record {
    within = grind (arith, length-drop, two, two_bytes);
    fits = omega (arith, room, length-set to at 0xFFFD);
    decodes =
        Decodes-then (utf16_split big) utf32_units raw rest (drop (read + len) raw) [] (take at to) (take (at + 1) (slice_set to at 0xFFFD)) before.decodes
        (record {
          taken = lone ∷ [];
          items = items_here;
          tail = tail_here;
          text = take_more_set to at 0xFFFD room ∙ ap (λ c. take at to ++ c ∷ []) (sym (lossy_char-lone_item (first_unit big rest)));
        });
  }

  -- or does not fit
  pub replacement_is_too_long : (left : ℕ) → left < 1 → TextDoesNotFit utf32_units (decided (utf16_split big) (drop read raw)) left
  unfolding rest lone
  replacement_is_too_long left full = grind (arith, items_here, lossy_char-lone_item, first_unit, rest)

-- U+FFFD is written for a tail
pub tail_units : (tail : List ℕ) → tail ≢ [] → flat_map utf32_units (whole_lossy_chars [] tail) ≡ 0xFFFD ∷ []
tail_units [] some = absurd (some refl)
tail_units (first ∷ more) some = refl

pub tail_is_too_long : (big : Bool) (rest : List ℕ) (left : ℕ) → rest ≢ [] → split_tail big rest ≡ rest → left < 1 → TextDoesNotFit utf32_units (lossy_text big rest) left
tail_is_too_long big rest left some same full = record { char = 0xFFFD; more = []; begins = tail_text big rest some same; too_long = full }
