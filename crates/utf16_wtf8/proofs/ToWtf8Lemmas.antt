-- What is decoded for WTF-8: a text that was written, an unpaired surrogate, and a tail.
use Rattle.std.proofs.Common.{◌≡◌, ℕ, ◌<◌, ◌≤◌, Bool, true, false, List, [], ◌∷◌, ◌++◌, Some, length, map, take, drop, refl, sym, ap, ◌∙◌, ⊎_elim, arith, append-nil, take-append-drop}
use Rattle.std.proofs.lemmas.Bool.{cases_Bool}
use Rattle.std.proofs.lemmas.List.Elements.{All-cons, All-nil}
use Rattle.std.specs.Char.{IsScalar, encode_utf8}
use Rattle.std.specs.Char.Utf16.{is_high_surrogate}
use Rattle.std.specs.List.{flat_map}
use Rattle.utf16_units.specs.Encoding.{char_bytes, text_of}
use Rattle.utf16_units.specs.IllFormed.{IsIllFormedAt, IsIncomplete}
use Rattle.utf16_units.specs.Split.{good, split_items, split_tail}
use Rattle.utf16_units.proofs.EncodingLemmas.{Encodes-text_of, IsUtf16-nil, encode-one, text_of-nil}
use Rattle.utf16_units.proofs.FirstChar.{AreBytes, first_unit}
use Rattle.utf16_units.proofs.RecipeLemmas.{two}
use Rattle.utf16_units.proofs.SplitIllFormed.{lone_item, split_items-fault, split_tail-fault}
use Rattle.utf16_units.proofs.SplitJoin.{split_items-text, split_tail-text}
use Rattle.utf16_transcode.specs.StreamSplit.{IsSplitInChunks}
use Rattle.utf16_transcode.specs.Stops.{IsIllFormedUtf16, TextDoesNotFit, Stops, StopsPartial}
use Rattle.utf16_transcode.specs.Transcoded.{TranscodesToUtf8, Writes}
use Rattle.utf16_transcode.specs.declared.progress.Stop.{Stop}
use Rattle.utf16_transcode.specs.declared.progress.Stop.TheVariants.{Incomplete, Done, IllFormed, NoSpace}
use Rattle.utf16_transcode.proofs.DecodeLossyLemmas.{stops_lossy}
use Rattle.utf16_transcode.proofs.DecodesSteps.{first_fits}
use Rattle.utf16_transcode.proofs.ToUtf8Lemmas.{faults_there}
use Rattle.utf16_transcode.proofs.ToUtf8Parts.{utf16_chunks}
use Rattle.utf16_wtf8.specs.ToWtf8.{DecodesToWtf8, item_point, tail_points, wtf8_split}
use Rattle.utf16_wtf8.specs.Wtf8.{generalized_utf8}
use Rattle.utf16_wtf8.proofs.PointLemmas.{points_of-split}

-- characters are their own code points
pub item_point-good : (text : List ℕ) → map item_point (map good text) ≡ text
item_point-good [] = refl
item_point-good (c ∷ text) = ap (λ t. c ∷ t) (item_point-good text)

item_point-lone : (unit : ℕ) → item_point (lone_item unit) ≡ unit
item_point-lone unit = ⊎_elim (λ (e : is_high_surrogate unit ≡ true). rw e refl) (λ (e : is_high_surrogate unit ≡ false). rw e refl)
    (cases_Bool (is_high_surrogate unit))

-- ---- chunks

one_at_end : (big : Bool) (tail : List ℕ) → length (tail_points big tail) ≤ 1
one_at_end big [] = omega arith
one_at_end big (last ∷ []) = omega arith
one_at_end big (first ∷ second ∷ after) = omega arith

pub wtf8_chunks : (big : Bool) → IsSplitInChunks (wtf8_split big)
wtf8_chunks big = record {
  items = (utf16_chunks big).items;
  tail = (utf16_chunks big).tail;
  nothing = (utf16_chunks big).nothing;
  few = (utf16_chunks big).few;
  undecided = (utf16_chunks big).undecided;
  no_end = refl;
  one = one_at_end big;
  whole = points_of-split big;
}

-- ---- texts

-- a text at the start was written, and its characters are decoded
pub DecodesToWtf8-text : (big : Bool) (raw to : List ℕ) (n w : ℕ) → Writes (TranscodesToUtf8 big) raw to n w → DecodesToWtf8 big raw to n w
DecodesToWtf8-text big raw to n w wrote =
    let front = take n raw in
    let text = text_of big front in
    let encodes = Encodes-text_of big front wrote.gives.0 in
    let whole = take-append-drop n raw in
    record {
      within = wrote.within;
      fits = wrote.fits;
      decodes = record {
        taken = map good text;
        items = ap (split_items big) (sym whole) ∙ split_items-text big text front (drop n raw) encodes;
        tail = ap (split_tail big) (sym whole) ∙ split_tail-text big text front (drop n raw) encodes;
        text = wrote.gives.1 ∙ ap (flat_map generalized_utf8) (sym (item_point-good text));
      };
    }

-- why a call stopped, if not at an ill-formed sequence
pub stops_before_tail : (big : Bool) (raw : List ℕ) (n left : ℕ) (stop : Stop) → ((len : ℕ) → ¬ (stop ≡ IllFormed len)) → Stops (char_bytes big) encode_utf8 (IsIllFormedUtf16 big) raw n left stop
    → StopsPartial (wtf8_split big) generalized_utf8 (drop n raw) left stop
stops_before_tail big raw n left Done no_fault here = stops_lossy big raw n left Done no_fault here
stops_before_tail big raw n left (IllFormed len) no_fault here = absurd (no_fault len refl)
stops_before_tail big raw n left Incomplete no_fault here = stops_lossy big raw n left Incomplete no_fault here
stops_before_tail big raw n left NoSpace no_fault here = record {
  char = here.char;
  more = map item_point (split_items big here.more);
  begins =
      ap (λ b. map item_point (split_items big b)) here.begins
      ∙ ap (map item_point) (split_items-text big (here.char ∷ []) (char_bytes big here.char) here.more
      (record { scalars = All-cons IsScalar here.char [] here.scalar (All-nil IsScalar); spelled = encode-one big here.char }));
  too_long = here.too_long;
}

-- ---- an unpaired surrogate

module _ (big : Bool) (raw : List ℕ) (len : ℕ) (are : AreBytes raw) (some : 0 < length raw) (at : IsIllFormedAt big raw (Some len)) where
  abbrev unit : ℕ
  unit = first_unit big raw

  found : IsIllFormedUtf16 big raw 0 (Some len)
  found = faults_there big raw 0 (Some len) some (IsUtf16-nil big) at

  -- it has two bytes
  pub two_bytes : 2 ≤ length raw
  two_bytes = of raw some at.1.1 where
    of : (bytes : List ℕ) → 0 < length bytes → ¬ (IsIncomplete big bytes) → 2 ≤ length bytes
    of [] some whole = absurd (omega arith)
    of (last ∷ []) some whole = absurd (whole tt)
    of (first ∷ second ∷ after) some whole = omega arith

  -- and is the first item
  items_here : split_items big raw ≡ lone_item unit ∷ split_items big (drop 2 raw)
  items_here =
      split_items-fault big raw 0 are (two found.1) found.0
      ∙ ap (λ text. map good text ++ lone_item unit ∷ split_items big (drop 2 raw)) (text_of-nil big)

  -- it was written
  pub DecodesToWtf8-surrogate : (to : List ℕ) (w : ℕ) → w ≤ length to → take w to ≡ generalized_utf8 unit → DecodesToWtf8 big raw to 2 w
  DecodesToWtf8-surrogate to w fits bytes = record {
    within = two_bytes;
    fits = fits;
    decodes = record {
      taken = lone_item unit ∷ [];
      items = items_here;
      tail = split_tail-fault big raw 0 are (two found.1) found.0;
      text = bytes ∙ sym (append-nil (generalized_utf8 unit)) ∙ ap (λ point. generalized_utf8 point ++ []) (sym (item_point-lone unit));
    };
  }

  points_here : map item_point (split_items big raw) ≡ unit ∷ map item_point (split_items big (drop 2 raw))
  points_here = ap (map item_point) items_here ∙ ap (λ point. point ∷ map item_point (split_items big (drop 2 raw))) (item_point-lone unit)

  -- it fits, or it does not
  pub surrogate_fits : (left : ℕ) → length (generalized_utf8 unit) ≤ left → ¬ (TextDoesNotFit generalized_utf8 (map item_point (split_items big raw)) left)
  surrogate_fits left many = first_fits generalized_utf8 _ _ unit left points_here many

  pub surrogate_does_not_fit : (left : ℕ) → left < length (generalized_utf8 unit) → TextDoesNotFit generalized_utf8 (map item_point (split_items big raw)) left
  surrogate_does_not_fit left few = record { char = unit; more = _; begins = points_here; too_long = few }

-- ---- a tail

pub tail_points-unit : (big : Bool) (tail : List ℕ) → 2 ≤ length tail → tail_points big tail ≡ first_unit big tail ∷ []
tail_points-unit big [] some = absurd (omega arith)
tail_points-unit big (last ∷ []) some = absurd (omega arith)
tail_points-unit big (first ∷ second ∷ after) some = refl
