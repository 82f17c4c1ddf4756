-- Lossy decoding: a text that was written, and U+FFFD for the ill-formed sequence that follows it.
use Rattle.std.proofs.Common.{◌≡◌, ◌≢◌, ℕ, ◌+◌, ◌*◌, ◌<◌, ◌≤◌, Bool, List, [], ◌∷◌, ◌++◌, Option, None, Some, length, map, take, drop, encode_utf8_all, refl, sym, ap, ap₂, ◌∙◌, subst, arith, append-nil, length-append, length-drop, take-add, take-append-drop, take_all, take_at, ⊎_elim}
use Rattle.std.proofs.lemmas.Bool.{cases_lt}
use Rattle.std.proofs.lemmas.List.{append_cancel_left, drop_all}
use Rattle.std.proofs.lemmas.List.Concat.{flat_map-append}
use Rattle.std.proofs.lemmas.List.Elements.{All-cons, All-nil}
use Rattle.std.specs.Char.{IsScalar, encode_utf8}
use Rattle.std.specs.Option.{ForSome}
use Rattle.utf16_units.specs.Encoding.{Encodes, IsUtf16, char_bytes, char_size, text_of}
use Rattle.utf16_units.specs.IllFormed.{BeginsWithNoChar, IsErrorLen, IsIllFormedAt, IsIncomplete}
use Rattle.utf16_units.specs.Split.{Item, whole_lossy_chars, good, lossy_text, lossy_chars, split_items, split_tail}
use Rattle.utf16_units.specs.Utf16Error.{IsErrorOf, error_len, valid_up_to}
use Rattle.utf16_units.specs.declared.error.Utf16Error.{Utf16Error}
use Rattle.utf16_units.proofs.CharLemmas.{char_size_cases, length-char_bytes}
use Rattle.utf16_units.proofs.EncodingLemmas.{Encodes-text_of, IsUtf16-append, IsUtf16-char, encode-one}
use Rattle.utf16_units.proofs.IllFormedLemmas.{IsUtf16ValidUpTo-unique}
use Rattle.utf16_units.proofs.FirstChar.{AreBytes, first_unit}
use Rattle.utf16_units.proofs.RecipeLemmas.{lossy_char-lone_item, lossy_chars-good, split_text, two}
use Rattle.utf16_units.proofs.ShownLemmas.{split_within}
use Rattle.utf16_units.proofs.SplitLemmas.{Split-computed}
use Rattle.utf16_units.proofs.SplitIllFormed.{lone_item, split_items-fault, split_tail-incomplete, split_tail-fault}
use Rattle.utf16_units.proofs.SplitJoin.{split_items-text, split_tail-text}
use Rattle.utf16_transcode.specs.Decodes.{Decodes, utf16_split}
use Rattle.utf16_transcode.specs.Transcoded.{DecodesTo, TranscodesToUtf8}
use Rattle.utf16_transcode.specs.Stops.{IsIllFormedUtf16, TextDoesNotFit, Stops, StopsPartial}
use Rattle.utf16_transcode.specs.declared.progress.Stop.{Stop}
use Rattle.utf16_transcode.specs.declared.progress.Stop.TheVariants.{Incomplete, Done, IllFormed, NoSpace}
use Rattle.utf16_transcode.proofs.DecodesLemmas.{cut_off_decides, cut_off_leaves, split_tail-again}
use Rattle.utf16_transcode.proofs.DecodesSteps.{Decodes-then, first_fits}
use Rattle.utf16_transcode.proofs.IllFormedDecides.{fault_decides}
use Rattle.utf16_transcode.proofs.ToUtf8Parts.{utf16_chunks, whole_lossy_chars-is}
use Rattle.utf16_transcode.proofs.WholeLemmas.{whole_text}

-- a text at the start is decoded, and its characters are written
Decodes-text : (big : Bool) (bytes : List ℕ) (n : ℕ) (old utf8 : List ℕ) → TranscodesToUtf8 big (take n bytes) utf8
    → Decodes big bytes (drop n bytes) old (old ++ utf8)
Decodes-text big bytes n old utf8 is =
    let front = take n bytes in
    let text = text_of big front in
    let encodes = Encodes-text_of big front is.0 in
    let whole = take-append-drop n bytes in
    record {
      taken = map good text;
      items = ap (split_items big) (sym whole) ∙ split_items-text big text front (drop n bytes) encodes;
      tail = ap (split_tail big) (sym whole) ∙ split_tail-text big text front (drop n bytes) encodes;
      text = ap (λ t. old ++ t) (is.1 ∙ ap encode_utf8_all (sym (lossy_chars-good text)));
    }

-- a text at the start was written
pub DecodesTo-front : (big : Bool) (raw to : List ℕ) (n w : ℕ) → n ≤ length raw → w ≤ length to → TranscodesToUtf8 big (take n raw) (take w to)
    → DecodesTo big raw to n w
DecodesTo-front big raw to n w within fits is = record { within = within; fits = fits; decodes = Decodes-text big raw n [] (take w to) is }

-- why a call stopped, if not at an ill-formed sequence
pub stops_lossy : (big : Bool) (raw : List ℕ) (n left : ℕ) (stop : Stop) → ((len : ℕ) → ¬ (stop ≡ IllFormed len)) → Stops (char_bytes big) encode_utf8 (IsIllFormedUtf16 big) raw n left stop
    → StopsPartial (utf16_split big) encode_utf8 (drop n raw) left stop
stops_lossy big raw n left Done no_fault here = drop_all n raw (omega arith)
stops_lossy big raw n left (IllFormed len) no_fault here = absurd (no_fault len refl)
stops_lossy big raw n left Incomplete no_fault here = (
  (λ none. some_cut_off (drop n raw) none (subst (λ k. IsIncomplete big (drop k raw)) (IsUtf16ValidUpTo-unique big raw _ n here.1.front here.0) here.1.at_front)),
  subst (λ b. split_tail big b ≡ b) (split_tail-incomplete big raw n here.1 here.0) (split_tail-again big raw),
) where
  some_cut_off : (left : List ℕ) → left ≡ [] → IsIncomplete big left → ⊥
  some_cut_off [] none cut = cut
  some_cut_off (b ∷ left) none cut = absurd (cc)
stops_lossy big raw n left NoSpace no_fault here = record {
  char = here.char;
  more = lossy_chars (split_items big here.more);
  begins =
      ap (λ b. lossy_chars (split_items big b)) here.begins
      ∙ ap lossy_chars (split_items-text big (here.char ∷ []) (char_bytes big here.char) here.more (record { scalars = All-cons IsScalar here.char [] here.scalar (All-nil IsScalar); spelled = encode-one big here.char }));
  too_long = here.too_long;
}

char_long : (c : ℕ) → 2 ≤ char_size c
char_long c = ⊎_elim (λ (two : char_size c ≡ 2). omega (arith, two)) (λ (four : char_size c ≡ 4). omega (arith, four)) (char_size_cases c)

two_long : (big : Bool) (rest : List ℕ) (len : Option ℕ) → IsErrorLen big rest len → ForSome len (λ n. n ≡ 2)
two_long big rest None is = λ x same. absurd (cc)
two_long big rest (Some n) is = λ x same. (let here = is.0 in cc)

-- what follows the longest well-formed prefix is ill-formed, or incomplete, where it begins
module _ (big : Bool) (raw : List ℕ) (n : ℕ) (len : Option ℕ) (found : IsIllFormedUtf16 big raw n len) where
  error_len_there : IsErrorLen big (drop n raw) len
  error_len_there = subst (λ k. IsErrorLen big (drop k raw) len) (IsUtf16ValidUpTo-unique big raw found.1.valid_up_to n found.1.front found.0) found.1.at_front

  no_char : BeginsWithNoChar big (drop n raw)
  no_char c rest scalar is =
      let k = length (char_bytes big c) in
      let more : take (n + k) raw ≡ take n raw ++ char_bytes big c = take-add n k raw ∙ ap (λ b. take n raw ++ take k b) is ∙ ap (λ b. take n raw ++ b) (take_at (char_bytes big c) rest k refl) in
      let text = subst (IsUtf16 big) (sym more) (IsUtf16-append big (take n raw) (char_bytes big c) found.0.valid (IsUtf16-char big c scalar)) in
      let long = ap length is ∙ length-append (char_bytes big c) rest in
      absurd (omega (arith, found.0.longest (n + k) (omega (arith, long, length-drop n raw, found.0.within)) text, length-char_bytes big c, char_long c))

  pub ill_formed_there : IsIllFormedAt big (drop n raw) len
  ill_formed_there = (no_char, error_len_there, two_long big (drop n raw) len error_len_there)

  pub some_left : n < length raw
  some_left = ⊎_elim
      (λ (some : n < length raw). some)
      (λ (all : length raw ≤ n). absurd (found.1.ill_formed (subst (IsUtf16 big) (take_all n raw all) found.0.valid)))
      (cases_lt n (length raw))

-- an ill-formed sequence after a text
module _ (big : Bool) (raw : List ℕ) (n len : ℕ) (found : IsIllFormedUtf16 big raw n (Some len)) where
  fault : IsErrorLen big (drop n raw) (Some len)
  fault = error_len_there big raw n (Some len) found

  -- two bytes are left
  two_left : 2 ≤ length (drop n raw)
  two_left = two (drop n raw) (omega (arith, some_left big raw n (Some len) found, length-drop n raw)) fault.1 where
    two : (rest : List ℕ) → 0 < length rest → ¬ (IsIncomplete big rest) → 2 ≤ length rest
    two [] some whole = absurd (omega (arith, some))
    two (last ∷ []) some whole = absurd (whole tt)
    two (first ∷ second ∷ rest) some whole = omega arith

  module _ (are : AreBytes raw) where
    abbrev lone : Item
    lone = lone_item (first_unit big (drop n raw))

    encodes : Encodes big (text_of big (take n raw)) (take n raw)
    encodes = Encodes-text_of big (take n raw) found.0.valid

    whole : take n raw ++ drop n raw ≡ raw
    whole = take-append-drop n raw

    after : drop (n + 2) raw ≡ drop (n + len) raw
    after = ap (λ k. drop (n + k) raw) (sym fault.0)

    items_here : split_items big (drop n raw) ≡ lone ∷ split_items big (drop (n + len) raw)
    items_here =
        append_cancel_left (map good (text_of big (take n raw))) _ _
        (sym (split_items-text big (text_of big (take n raw)) (take n raw) (drop n raw) encodes) ∙ ap (split_items big) whole
        ∙ split_items-fault big raw n are (two found.1) found.0)
        ∙ ap (λ b. lone ∷ split_items big b) after

    tail_here : split_tail big (drop n raw) ≡ split_tail big (drop (n + len) raw)
    tail_here =
        sym (split_tail-text big (text_of big (take n raw)) (take n raw) (drop n raw) encodes) ∙ ap (split_tail big) whole
        ∙ split_tail-fault big raw n are (two found.1) found.0 ∙ ap (split_tail big) after

    -- so there is an item
    pub some_items : split_items big (drop n raw) ≢ []
    some_items none = let items = items_here in absurd (cc)

    shown_here : lossy_chars (split_items big (drop n raw)) ≡ 0xFFFD ∷ lossy_chars (split_items big (drop (n + len) raw))
    shown_here = ap lossy_chars items_here ∙ ap (λ c. c ∷ lossy_chars (split_items big (drop (n + len) raw))) (lossy_char-lone_item (first_unit big (drop n raw)))

    -- U+FFFD fits in three bytes, and in no fewer
    pub replacement_fits : (left : ℕ) → 3 ≤ left → ¬ (TextDoesNotFit encode_utf8 (lossy_chars (split_items big (drop n raw))) left)
    unfolding encode_utf8
    replacement_fits left many = first_fits encode_utf8 _ _ 0xFFFD left shown_here many

    pub replacement_does_not_fit : (left : ℕ) → left < 3 → TextDoesNotFit encode_utf8 (lossy_chars (split_items big (drop n raw))) left
    unfolding encode_utf8
    replacement_does_not_fit left few = record { char = 0xFFFD; more = _; begins = shown_here; too_long = few }

    -- the text and U+FFFD were written
    pub DecodesTo-lone : (mid next : List ℕ) (w last : ℕ) → TranscodesToUtf8 big (take n raw) (take w mid) → last ≤ length next
        → take last next ≡ take w mid ++ 0xEF ∷ 0xBF ∷ 0xBD ∷ [] → DecodesTo big raw next (n + len) last
    unfolding encode_utf8
    DecodesTo-lone mid next w last text room bytes = record {
      within = omega (arith, two_left, length-drop n raw, fault.0, found.0.within);
      fits = room;
      decodes =
          Decodes-then (utf16_split big) encode_utf8 raw (drop n raw) (drop (n + len) raw) [] (take w mid) (take last next) (Decodes-text big raw n [] (take w mid) text)
          (record {
            taken = lone ∷ [];
            items = items_here;
            tail = tail_here;
            text = bytes ∙ ap (λ c. take w mid ++ encode_utf8_all (c ∷ [])) (sym (lossy_char-lone_item (first_unit big (drop n raw))));
          });
    }

-- ---- the length of the whole text

mark_within : length (encode_utf8 0xFFFD) ≡ 3
unfolding encode_utf8
mark_within = refl

replacement_long : (text more : List ℕ) → length (encode_utf8_all (text ++ 0xFFFD ∷ more)) ≡ length (encode_utf8_all text) + 3 + length (encode_utf8_all more)
unfolding encode_utf8
replacement_long text more =
    let both = ap length (flat_map-append encode_utf8 text (0xFFFD ∷ more)) ∙ length-append (encode_utf8_all text) (encode_utf8_all (0xFFFD ∷ more)) in
    omega arith

-- for well-formed bytes the whole text is their text
pub text_size : (big : Bool) (rest : List ℕ) → IsUtf16 big rest → lossy_text big rest ≡ text_of big rest
text_size big rest t =
    let split = split_text big (text_of big rest) rest (Encodes-text_of big rest t) in
    ap₂ whole_lossy_chars split.0 split.1 ∙ lossy_chars-good (text_of big rest)

-- 2 * the length of the whole text is at most 3 * the number of bytes + 3
pub most_size : (big : Bool) (raw : List ℕ) → AreBytes raw → 2 * length (encode_utf8_all (lossy_text big raw)) ≤ 3 * length raw + 3
most_size big raw are = (split_within big raw (split_items big raw) (split_tail big raw) (Split-computed big raw are)).2

module _ (big : Bool) (rest : List ℕ) (e : Utf16Error) (is : IsErrorOf big rest e) (n : ℕ) (at : n ≡ valid_up_to e) where
  pub fault_size : AreBytes rest → (len : ℕ) → error_len e ≡ Some len
      → length (encode_utf8_all (lossy_text big rest))
      ≡ length (encode_utf8_all (text_of big (take n rest))) + 3 + length (encode_utf8_all (lossy_text big (drop len (drop n rest))))
  fault_size are len some =
      let front = encode_utf8_all (text_of big (take n rest)) in
      let all = whole_text (utf16_split big) encode_utf8 (utf16_chunks big) rest (drop len (drop n rest)) (front ++ encode_utf8 0xFFFD)
      (fault_decides big rest e is n at are len some [] front (front ++ encode_utf8 0xFFFD) refl refl) in
      let both = ap length all ∙ length-append (front ++ encode_utf8 0xFFFD) (encode_utf8_all (lossy_text big (drop len (drop n rest)))) in
      omega (arith, length-append front (encode_utf8 0xFFFD), mark_within)

  pub cut_off_size : error_len e ≡ None
      → length (encode_utf8_all (lossy_text big rest)) ≡ length (encode_utf8_all (text_of big (take n rest))) + 3
  cut_off_size none =
      let shown = cut_off_decides big rest e is n at none [] (encode_utf8_all (text_of big (take n rest))) refl in
      let leaves = cut_off_leaves big rest e is n at none in
      ap (λ t. length (encode_utf8_all t)) (whole_lossy_chars-is (split_items big rest) (split_tail big rest) ∙ ap (λ t. lossy_chars (split_items big rest) ++ whole_lossy_chars [] t) (sym leaves)
      ∙ ap (λ t. lossy_chars (split_items big rest) ++ t) (left (drop n rest) some_left))
      ∙ replacement_long (lossy_chars (split_items big rest)) []
      ∙ ap (λ b. length b + 3 + 0) (sym shown)
      ∙ omega arith where
        some_left : drop n rest ≢ []
        some_left none =
            is.fault.ill_formed (subst (IsUtf16 big) (sym (append-nil (take n rest)) ∙ ap (λ t. take n rest ++ t) (sym none) ∙ take-append-drop n rest)
            (subst (λ k. IsUtf16 big (take k rest)) (sym at) is.front.valid))

        left : (tail : List ℕ) → tail ≢ [] → whole_lossy_chars [] tail ≡ 0xFFFD ∷ []
        left [] some = absurd (some refl)
        left (first ∷ after) some = refl

  pub front_size : AreBytes rest
      → length (encode_utf8_all (text_of big (take n rest))) + 3 ≤ length (encode_utf8_all (lossy_text big rest))
  front_size are = by_len (error_len e) refl where
    by_len : (len : Option ℕ) → error_len e ≡ len
        → length (encode_utf8_all (text_of big (take n rest))) + 3 ≤ length (encode_utf8_all (lossy_text big rest))
    by_len None none = let size = cut_off_size none in omega arith
    by_len (Some len) some = let size = fault_size are len some in omega arith
