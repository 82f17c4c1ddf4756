-- From WTF-8 to UTF-16: what was read and written so far, and why a call stops.
use Rattle.std.proofs.lemmas.Bool.Decides.{nat_tests}
use Rattle.std.proofs.Common.{◌≡◌, ℕ, ◌+◌, ◌-◌, ◌<◌, ◌≤◌, Bool, true, false, cond, List, [], ◌∷◌, ◌++◌, All, Option, None, Some, flat_map, length, slice_index, take, drop, refl, sym, ap, ap₂, ◌∙◌, subst, ⊎_elim, arith, append-nil, length-drop, length-take-le, take-add, take-append-drop, true≢false}
use borrow.Rule.Slice.PartMut.{put_mid}
use Rattle.std.specs.Prelude.{nat_lt}
use Rattle.std.proofs.lemmas.Bool.{cases_lt}
use Rattle.std.proofs.lemmas.List.{drop-drop, take_rest}
use Rattle.std.proofs.lemmas.List.Concat.{flat_map-append}
use Rattle.std.proofs.lemmas.List.Elements.{All-head, All-nil, All-weaker}
use Rattle.std.proofs.lemmas.Str.{chars-encodes}
use Rattle.std.specs.Char.{IsScalar, encode_utf8}
use Rattle.std.specs.Int.{is_in_range}
use Rattle.std.specs.Char.Utf16.{is_high_surrogate}
use Rattle.std.specs.Str.{IsUtf8, StartsWithNoChar, chars}
use Rattle.std.specs.Str.Lossy.{utf8_error_len}
use Rattle.utf16_units.specs.Encoding.{char_bytes, encode}
use Rattle.utf16_units.specs.Unit.{IsLeading, unit_bytes}
use Rattle.utf16_units.proofs.CharLemmas.{one_unit_bytes}
use Rattle.utf16_units.proofs.EncodingLemmas.{All-from_all_scalars}
use Rattle.utf16_units.proofs.IllFormedLemmas.{rest_from}
use Rattle.utf16_units.proofs.UnitLemmas.{length-unit_bytes}
use Rattle.utf8_bytes.proofs.ValidLemmas.{none_at}
use Rattle.utf16_transcode.specs.Transcoded.{Writes}
use Rattle.utf16_transcode.specs.declared.progress.Stop.{Stop}
use Rattle.utf16_transcode.specs.declared.progress.Stop.TheVariants.{Incomplete, Done, IllFormed, NoSpace}
use Rattle.utf16_transcode.proofs.TranscodedLemmas.{put_end-long, take-end}
use Rattle.utf16_transcode.specs.FromUtf8.{IsIllFormedUtf8, TranscodesToUtf16}
use Rattle.utf16_transcode.proofs.DecodesUtf8.{flat_encode}
use Rattle.utf16_transcode.specs.Stops.{Stops}
use Rattle.utf16_wtf8.specs.FromWtf8.{BeginsWithSurrogate, IsIllFormedAfter, IsIllFormedWtf8, NextPointDoesNotFit, NoPointContinues, ReadsWtf8, StopsAfter, StopsFromWtf8, surrogate_begins, wtf8_error_len}
use Rattle.utf16_wtf8.specs.Wtf8.{IsCodePoint, SpellsWtf8, ends_leading, generalized_utf8}
use Rattle.utf16_wtf8.proofs.CodeLemmas.{spelled-nil}
use Rattle.utf16_wtf8.proofs.ContinuedLemmas.{FirstIsTrailing, SpellsWtf8-append, SpellsWtf8-next, begins-lead, ends_leading-point, ends_leading-text, scalar_or_surrogate, surrogate-begins, valid_to}
use Rattle.utf16_wtf8.proofs.PointLemmas.{high, not_high}
use Rattle.utf16_wtf8.proofs.ScalarLemmas.{code_point-scalar, no_pair-scalars, scalar-not_trailing}

-- nothing was read
pub Reads-none : (big : Bool) (wtf8 to : List ℕ) → ReadsWtf8 big wtf8 to 0 0 false
Reads-none big wtf8 to = record {
  within = omega arith;
  fits = omega arith;
  points = [];
  spells = record { each_point = All-nil IsCodePoint; no_pair = tt; spelled = refl };
  units = refl;
  last = refl;
}

-- ---- a text

SpellsWtf8-text : (text : List ℕ) → All IsScalar text → SpellsWtf8 text (flat_map generalized_utf8 text)
SpellsWtf8-text text scalars = record {
  each_point = All-weaker IsScalar IsCodePoint code_point-scalar text scalars;
  no_pair = no_pair-scalars text scalars;
  spelled = refl;
}

begins_no_trail : (text : List ℕ) → All IsScalar text → ¬ (FirstIsTrailing text)
begins_no_trail [] scalars t = t
begins_no_trail (c ∷ text) scalars t = scalar-not_trailing c (All-head IsScalar c text scalars) t

-- the characters of UTF-8
abbrev text_in : (bytes : List ℕ) → IsUtf8 bytes → List ℕ
text_in bytes u = u.0

module _ (bytes : List ℕ) (u : IsUtf8 bytes) where
  scalars_in : All IsScalar (text_in bytes u)
  scalars_in = All-from_all_scalars (text_in bytes u) u.1.0

  spells_text : SpellsWtf8 (text_in bytes u) bytes
  spells_text = subst (SpellsWtf8 (text_in bytes u)) u.1.1 (SpellsWtf8-text (text_in bytes u) scalars_in)

  chars_in : chars bytes ≡ text_in bytes u
  chars_in = ap chars (sym u.1.1) ∙ chars-encodes (text_in bytes u) u.1.0

module _ (big : Bool) (wtf8 old part : List ℕ) (read at n w : ℕ) (leading : Bool) (before : ReadsWtf8 big wtf8 old read at leading)
    (text : Writes (TranscodesToUtf16 big) (rest_from wtf8 read) part n w) (long : length part ≡ length old - at) where
  abbrev new : List ℕ
  new = put_mid at (length old - at) old part

  utf8 : IsUtf8 (take n (drop read wtf8))
  utf8 = subst (λ r. IsUtf8 (take n r)) (take_rest wtf8 read) text.gives.0

  abbrev cs : List ℕ
  cs = text_in (take n (drop read wtf8)) utf8

  utf16 : take w part ≡ flat_map (char_bytes big) cs
  utf16 =
      text.gives.1 ∙ ap (λ r. encode big (chars (take n r))) (take_rest wtf8 read)
      ∙ ap (encode big) (chars_in (take n (drop read wtf8)) utf8) ∙ flat_encode big cs

  within_rest : read + n ≤ length wtf8
  within_rest = grind (arith, take_rest, length-drop)

  last_is : (points text : List ℕ) → All IsScalar text → (text ≡ [] → ends_leading points ≡ leading) → (leads : Bool) → ((text ≡ []) → leads ≡ leading) → (¬ (text ≡ []) → leads ≡ false)
      → ends_leading (points ++ text) ≡ leads
  last_is points [] scalars same leads nothing some = ap ends_leading (append-nil points) ∙ same refl ∙ sym (nothing refl)
  last_is points (c ∷ text) scalars same leads nothing some = ends_leading-text points c text scalars ∙ sym (some (λ e. absurd (cc)))

  pub Reads-text : (leads : Bool) → (n ≡ 0 → leads ≡ leading) → (0 < n → leads ≡ false) → ReadsWtf8 big wtf8 new (read + n) (at + w) leads
  Reads-text leads nothing some = record {
    within = within_rest;
    fits = let all = put_end-long at old part before.fits long in let few = text.fits in let room = before.fits in omega (arith, all, long);
    points = before.points ++ cs;
    spells =
        subst (SpellsWtf8 (before.points ++ cs)) (sym (take-add read n wtf8))
        (SpellsWtf8-append before.points cs (take read wtf8) (take n (drop read wtf8)) before.spells (spells_text (take n (drop read wtf8)) utf8)
        (λ ends. begins_no_trail cs (scalars_in (take n (drop read wtf8)) utf8)));
    units =
        take-end at w old part before.fits long text.fits ∙ ap₂ (λ a b. a ++ b) before.units utf16
        ∙ sym (flat_map-append (char_bytes big) before.points cs);
    last = last_is before.points cs (scalars_in (take n (drop read wtf8)) utf8) (λ none. before.last) leads
        (λ none. nothing (no_chars none)) (λ any. some (some_read any));
  } where
    size : length (take n (drop read wtf8)) ≡ n
    size = length-take-le n (drop read wtf8) (let left = length-drop read wtf8 in let most = within_rest in omega arith)

    no_chars : cs ≡ [] → n ≡ 0
    no_chars none = sym size ∙ ap length (sym utf8.1.1 ∙ ap (flat_map generalized_utf8) none)

    some_read : ¬ (cs ≡ []) → 0 < n
    some_read any = ⊎_elim
        (λ (few : n < 1).
        let zero : n ≡ 0 = omega arith in
        absurd (any (spelled-nil cs (utf8.1.1 ∙ ap (λ k. take k (drop read wtf8)) zero))))
        (λ (one : 1 ≤ n). omega arith)
        (cases_lt n 1)

-- ---- a surrogate

module _ (big : Bool) (wtf8 old : List ℕ) (read at unit : ℕ) (leading : Bool) (before : ReadsWtf8 big wtf8 old read at leading)
    (next : BeginsWithSurrogate leading (rest_from wtf8 read) unit) where
  rest_is : rest_from wtf8 read ≡ drop read wtf8
  rest_is = take_rest wtf8 read

  three : length (generalized_utf8 unit) ≡ 3
  three = ap length (sym next.spelled) ∙ length-take-le 3 (rest_from wtf8 read) next.within

  begins_next : drop read wtf8 ≡ generalized_utf8 unit ++ drop 3 (drop read wtf8)
  begins_next = sym (take-append-drop 3 (drop read wtf8)) ∙ ap (λ b. b ++ drop 3 (drop read wtf8)) (sym (ap (take 3) rest_is) ∙ next.spelled)

  spells_next : SpellsWtf8 (before.points ++ unit ∷ []) (take (read + length (generalized_utf8 unit)) wtf8)
  spells_next = grind (arith, SpellsWtf8-next, begins_next)

  pub Reads-surrogate : (new two : List ℕ) (end : ℕ) → end ≤ length new → two ≡ unit_bytes big unit → take end new ≡ take at old ++ two
      → (lead : Bool) → (lead ≡ true → IsLeading unit) → (IsLeading unit → lead ≡ true)
      → ReadsWtf8 big wtf8 new (read + 3) end lead
  Reads-surrogate new two end room is bytes lead only always = record {
    within = let size = ap length rest_is ∙ length-drop read wtf8 in let few = next.within in let most = before.within in omega arith;
    fits = room;
    points = before.points ++ unit ∷ [];
    spells = subst (λ k. SpellsWtf8 (before.points ++ unit ∷ []) (take (read + k) wtf8)) three spells_next;
    units =
        bytes ∙ ap₂ (λ a b. a ++ b) before.units (is ∙ sym (one_unit_bytes big unit (let to = next.to in omega arith)) ∙ sym (append-nil (char_bytes big unit)))
        ∙ sym (flat_map-append (char_bytes big) before.points (unit ∷ []));
    last = ends_leading-point before.points unit ∙ same_test lead only always;
  } where
    same_test : (lead : Bool) → (lead ≡ true → IsLeading unit) → (IsLeading unit → lead ≡ true) → is_high_surrogate unit ≡ lead
    same_test true only always = high unit (only refl)
    same_test false only always = not_high unit (λ l. true≢false (sym (always l)))

  -- it does not fit
  pub surrogate_does_not_fit : (left : ℕ) → left < 2 → NextPointDoesNotFit big wtf8 read left
  surrogate_does_not_fit left few = record {
    point = unit;
    more = drop 3 (drop read wtf8);
    code_point = let to = next.to in omega arith;
    begins = begins_next;
    continues = record { points = before.points ++ unit ∷ []; spells = spells_next };
    too_long = let two = ap length (one_unit_bytes big unit (let to = next.to in omega arith)) ∙ length-unit_bytes big unit in omega (arith, few, two);
  }

-- ---- why a call stops

module _ (big : Bool) (wtf8 to : List ℕ) (read written : ℕ) (leading : Bool) (before : ReadsWtf8 big wtf8 to read written leading) where
  -- what is there does not continue WTF-8
  ill_formed_after : (error_len : Option ℕ) → read < length wtf8 → IsIllFormedAfter leading (rest_from wtf8 read) error_len → IsIllFormedWtf8 wtf8 read error_len
  ill_formed_after error_len short after =
      let there = subst (λ r. IsIllFormedAfter leading r error_len) (take_rest wtf8 read) after in
      (valid_to wtf8 before.points read before.within before.spells short (subst (λ l. NoPointContinues l (drop read wtf8)) (sym before.last) there.0), there.1)

  pub stops_after : (left : ℕ) (stop : Stop) → read < length wtf8 → StopsAfter leading (rest_from wtf8 read) stop → StopsFromWtf8 big wtf8 read left stop
  stops_after left Done short after = absurd after
  stops_after left (IllFormed len) short after = ill_formed_after (Some len) short after
  stops_after left Incomplete short after = ill_formed_after None short after
  stops_after left NoSpace short after = absurd after

-- if no character and no surrogate begins here, no code point does
no_point : (leading : Bool) (rest : List ℕ) → StartsWithNoChar rest → surrogate_begins rest ≡ false → NoPointContinues leading rest
no_point leading rest none no_surrogate point more below e = grind (arith, nat_tests, surrogate-begins, scalar_or_surrogate)

-- `error_len` is the one of UTF-8
pub error_len-utf8 : (rest : List ℕ) → surrogate_begins rest ≡ false → wtf8_error_len rest ≡ utf8_error_len rest
error_len-utf8 rest isnt =
    ap (λ t. cond t (cond (nat_lt (length rest) 3) None (cond (is_in_range 0x80 0xBF (slice_index rest 2)) (Some 3) (Some 2))) (utf8_error_len rest)) isnt

-- a call for UTF-8 stopped here, and no surrogate begins here
module _ (big : Bool) (wtf8 to : List ℕ) (start n written left : ℕ) (leading : Bool) (before : ReadsWtf8 big wtf8 to (start + n) written leading)
    (isnt : surrogate_begins (drop (start + n) wtf8) ≡ false) where
  there : drop n (rest_from wtf8 start) ≡ drop (start + n) wtf8
  there = ap (drop n) (take_rest wtf8 start) ∙ drop-drop n start wtf8

  pub ill_formed_text : (error_len : Option ℕ) → IsIllFormedUtf8 (rest_from wtf8 start) n error_len → IsIllFormedWtf8 wtf8 (start + n) error_len
  ill_formed_text error_len here =
      let size = ap length (take_rest wtf8 start) ∙ length-drop start wtf8 in
      let none = subst StartsWithNoChar there (none_at (rest_from wtf8 start) n here.0) in (
        valid_to wtf8 before.points (start + n) before.within before.spells (omega arith) (no_point (ends_leading before.points) (drop (start + n) wtf8) none isnt),
        here.1 ∙ ap utf8_error_len there ∙ sym (error_len-utf8 (drop (start + n) wtf8) isnt),
      )

  pub stops_text : (stop : Stop) → start ≤ length wtf8 → Stops encode_utf8 (char_bytes big) IsIllFormedUtf8 (rest_from wtf8 start) n left stop → StopsFromWtf8 big wtf8 (start + n) left stop
  stops_text Done within here =
      let size = ap length (take_rest wtf8 start) ∙ length-drop start wtf8 in
      omega arith
  stops_text (IllFormed len) within here = ill_formed_text (Some len) here
  stops_text Incomplete within here = ill_formed_text None here
  stops_text NoSpace within here = record {
    point = here.char;
    more = here.more;
    code_point = code_point-scalar here.char here.scalar;
    begins = sym there ∙ here.begins;
    continues = record {
      points = before.points ++ here.char ∷ [];
      spells =
          SpellsWtf8-next wtf8 before.points (start + n) here.char here.more before.spells (code_point-scalar here.char here.scalar) (sym there ∙ here.begins)
          (λ ends. scalar-not_trailing here.char here.scalar);
    };
    too_long = here.too_long;
  }

-- the same where a text was written to the end of a buffer
pub stops_after_text : (big : Bool) (wtf8 old part : List ℕ) (read at n w : ℕ) (leading leads : Bool) → ReadsWtf8 big wtf8 old read at leading
    → ReadsWtf8 big wtf8 (put_mid at (length old - at) old part) (read + n) (at + w) leads → length part ≡ length old - at
    → surrogate_begins (rest_from wtf8 (read + n)) ≡ false → (stop : Stop) → Stops encode_utf8 (char_bytes big) IsIllFormedUtf8 (rest_from wtf8 read) n (length part - w) stop
    → StopsFromWtf8 big wtf8 (read + n) (length (put_mid at (length old - at) old part) - (at + w)) stop
stops_after_text big wtf8 old part read at n w leading leads before after long isnt stop here =
    let new = put_mid at (length old - at) old part in
    let all = put_end-long at old part before.fits long in
    let same : length part - w ≡ length new - (at + w) = omega (arith, long, all) in
    subst (λ k. StopsFromWtf8 big wtf8 (read + n) k stop) same
    (stops_text big wtf8 new read n (at + w) (length part - w) leads after (ap surrogate_begins (sym (take_rest wtf8 (read + n))) ∙ isnt) stop before.within here)

some_rest : (rest : List ℕ) → surrogate_begins rest ≡ true → 0 < length rest
some_rest [] begins = let lead = begins-lead [] begins in absurd (omega arith)
some_rest (b ∷ rest) begins = omega arith

-- where a surrogate begins, something is left
pub short_of : (wtf8 : List ℕ) (read : ℕ) → surrogate_begins (rest_from wtf8 read) ≡ true → read < length wtf8
short_of wtf8 read begins = omega (arith, some_rest (rest_from wtf8 read) begins, ap length (take_rest wtf8 read), length-drop read wtf8)
