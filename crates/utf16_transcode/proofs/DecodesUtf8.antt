-- What is decoded from UTF-8: texts, and items of the split.
use Rattle.std.proofs.Common.{◌≡◌, ℕ, ◌+◌, ◌<◌, ◌≤◌, Bool, List, [], ◌∷◌, ◌++◌, Some, flat_map, length, map, take, drop, refl, sym, ap, ap₂, ◌∙◌, subst, arith, append_assoc, append-nil, length-drop, take-append-drop}
use Rattle.std.proofs.lemmas.List.{drop-drop, drop_all}
use Rattle.std.proofs.lemmas.List.Concat.{flat_map-append}
use Rattle.std.proofs.lemmas.Str.{IsUtf8-encode}
use Rattle.std.specs.Char.{encode_utf8}
use Rattle.std.specs.Str.{StartsWithNoChar, chars}
use Rattle.std.specs.Str.Lossy.{utf8_error_len}
use Rattle.utf16_units.specs.Encoding.{char_bytes, encode}
use Rattle.utf8_bytes.specs.Split.{IsTail, Item, good, ill, item_bytes, items_bytes, lossy_chars, split_items, split_tail}
use Rattle.utf8_bytes.proofs.PartLemmas.{subpart_at}
use Rattle.utf8_bytes.proofs.ShownLemmas.{length-IsTail}
use Rattle.utf8_bytes.proofs.SplitIllFormed.{split_items-subpart, split_tail-subpart, split_undecided}
use Rattle.utf8_bytes.proofs.SplitLemmas.{Split-computed, Split-nil}
use Rattle.utf8_bytes.proofs.SplitUnique.{Split-unique}
use Rattle.utf8_bytes.proofs.TextLemmas.{lossy_chars-good, split_items-text, split_tail-text}
use Rattle.utf8_bytes.proofs.ValidLemmas.{none_at}
use Rattle.utf16_transcode.specs.Decodes.{DecodesAs}
use Rattle.utf16_transcode.specs.Stops.{TextDoesNotFit, Stops, StopsPartial}
use Rattle.utf16_transcode.specs.Transcoded.{Writes}
use Rattle.utf16_transcode.specs.declared.progress.Stop.{Stop}
use Rattle.utf16_transcode.specs.declared.progress.Stop.TheVariants.{Incomplete, Done, IllFormed, NoSpace}
use Rattle.utf16_transcode.proofs.DecodesSteps.{Decodes-none, Decodes-then}
use Rattle.utf16_transcode.specs.FromUtf8.{TranscodesToUtf16, IsIllFormedUtf8}
use Rattle.utf16_transcode.specs.Utf8Stream.{DecodesUtf8To, FirstItem, utf8_split}
use Rattle.utf16_transcode.proofs.FromUtf8Lemmas.{chars-char}

-- a text in UTF-16, character by character
pub flat_encode : (big : Bool) (text : List ℕ) → encode big text ≡ flat_map (char_bytes big) text
unfolding encode
flat_encode big text = refl

-- the bytes of the items that were decoded come first, and then the rest
pub taken_bytes : (bytes rest : List ℕ) (taken : List Item) → split_items bytes ≡ taken ++ split_items rest → split_tail bytes ≡ split_tail rest
    → items_bytes taken ++ rest ≡ bytes
taken_bytes bytes rest taken items tail =
    ap (λ b. items_bytes taken ++ b) (sym (Split-computed rest).spelled) ∙ sym (append_assoc (items_bytes taken) (items_bytes (split_items rest)) (split_tail rest))
    ∙ ap (λ b. b ++ split_tail rest) (sym (flat_map-append item_bytes taken (split_items rest)))
    ∙ ap₂ (λ i t. items_bytes i ++ t) (sym items) (sym tail) ∙ (Split-computed bytes).spelled

-- ---- the tail

-- a tail has at most three bytes
pub length-split_tail : (bytes : List ℕ) → length (split_tail bytes) ≤ 3
length-split_tail bytes = length-IsTail (split_tail bytes) (Split-computed bytes).ends

-- bytes that are all tail have no item
pub undecided_items : (bytes : List ℕ) → split_tail bytes ≡ bytes → split_items bytes ≡ []
undecided_items bytes same = sym (Split-unique bytes [] bytes (Split-nil bytes (subst (λ t. IsTail t) same (Split-computed bytes).ends))).0

-- ---- what a step decodes

-- nothing
pub DecodesUtf8To-none : (big : Bool) (utf8 to : List ℕ) → DecodesUtf8To big utf8 to 0 0
DecodesUtf8To-none big utf8 to = record {
  within = omega arith;
  fits = omega arith;
  decodes = Decodes-none utf8_split (char_bytes big) utf8 [];
}

-- a text, whose characters are written
pub DecodesUtf8To-text : (big : Bool) (utf8 to : List ℕ) (n w : ℕ) → Writes (TranscodesToUtf16 big) utf8 to n w → DecodesUtf8To big utf8 to n w
DecodesUtf8To-text big utf8 to n w wrote =
    let front = take n utf8 in
    let whole = take-append-drop n utf8 in
    let text = wrote.gives.0 in
    record {
      within = wrote.within;
      fits = wrote.fits;
      decodes = record {
        taken = map good (chars front);
        items = ap split_items (sym whole) ∙ split_items-text front (drop n utf8) text;
        tail = ap split_tail (sym whole) ∙ split_tail-text front (drop n utf8) text;
        text = wrote.gives.1 ∙ ap (encode big) (sym (lossy_chars-good (chars front))) ∙ flat_encode big (lossy_chars (map good (chars front)));
      };
    }

-- why the call that writes a text stopped, if not at an ill-formed sequence
pub stops_text : (big : Bool) (utf8 : List ℕ) (n left : ℕ) (stop : Stop) → ((len : ℕ) → ¬ (stop ≡ IllFormed len)) → Stops encode_utf8 (char_bytes big) IsIllFormedUtf8 utf8 n left stop
    → StopsPartial utf8_split (char_bytes big) (drop n utf8) left stop
stops_text big utf8 n left Done no_fault here = drop_all n utf8 (omega arith)
stops_text big utf8 n left (IllFormed len) no_fault here = absurd (no_fault len refl)
stops_text big utf8 n left Incomplete no_fault here = (
  (λ none. let short = here.0.short in omega (arith, ap length none, length-drop n utf8)),
  (split_undecided (drop n utf8) (none_at utf8 n here.0) (sym here.1)).1,
)
stops_text big utf8 n left NoSpace no_fault here = record {
  char = here.char;
  more = lossy_chars (split_items here.more);
  begins =
      let text = IsUtf8-encode here.char here.scalar in
      ap (λ b. lossy_chars (split_items b)) here.begins
      ∙ ap lossy_chars (split_items-text (encode_utf8 here.char) here.more text ∙ ap (λ t. map good t ++ split_items here.more) (chars-char here.char here.scalar));
  too_long = here.too_long;
}

-- an ill-formed subpart
pub FirstItem-subpart : (bytes : List ℕ) (len : ℕ) → StartsWithNoChar bytes → utf8_error_len bytes ≡ Some len → FirstItem bytes 0xFFFD len
FirstItem-subpart bytes len none error =
    let part = subpart_at bytes len none error in
    record {
      item = ill (take len bytes);
      is = refl;
      some = part.some;
      within = part.within;
      items = split_items-subpart bytes len none error;
      tail = split_tail-subpart bytes len none error;
    }

module _ (bytes : List ℕ) (char n : ℕ) (first : FirstItem bytes char n) where
  -- its character comes first
  pub first_shown : lossy_chars (split_items bytes) ≡ char ∷ lossy_chars (split_items (drop n bytes))
  first_shown = ap lossy_chars first.items ∙ ap (λ c. c ∷ lossy_chars (split_items (drop n bytes))) first.is

  -- it does not fit
  pub first_does_not_fit : (big : Bool) (left : ℕ) → left < length (char_bytes big char) → TextDoesNotFit (char_bytes big) (lossy_chars (split_items bytes)) left
  first_does_not_fit big left few = record { char = char; more = _; begins = first_shown; too_long = few }

-- the first item after what was already decoded was written
pub DecodesUtf8To-item : (big : Bool) (utf8 old new : List ℕ) (read at char n last : ℕ) → DecodesUtf8To big utf8 old read at → FirstItem (drop read utf8) char n
    → last ≤ length new → take last new ≡ take at old ++ char_bytes big char → DecodesUtf8To big utf8 new (read + n) last
DecodesUtf8To-item big utf8 old new read at char n last before first fits bytes =
    let rest = drop read utf8 in
    let within = before.within in
    let few = first.within in
    record {
      within = omega (arith, length-drop read utf8);
      fits = fits;
      decodes =
          Decodes-then utf8_split (char_bytes big) utf8 rest (drop (read + n) utf8) [] (take at old) (take last new) before.decodes
          (subst (λ r. DecodesAs utf8_split (char_bytes big) rest r (take at old) (take last new)) (drop-drop n read utf8) (record {
            taken = first.item ∷ [];
            items = first.items;
            tail = first.tail;
            text = bytes ∙ ap (λ b. take at old ++ b) (sym (append-nil (char_bytes big char)) ∙ ap (λ c. flat_map (char_bytes big) (c ∷ [])) (sym first.is));
          }));
    }
