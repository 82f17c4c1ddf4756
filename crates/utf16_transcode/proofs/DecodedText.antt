-- What was decoded from UTF-8 is the text of the bytes read.
use Rattle.std.proofs.Common.{◌≡◌, ℕ, ◌+◌, Bool, List, [], ◌∷◌, ◌++◌, Some, flat_map, length, take, drop, refl, sym, ap, ap₂, ◌∙◌, subst, arith, append_assoc, append-nil, length-append, take-append-drop, take-add, take_at, drop_at}
use Rattle.std.proofs.lemmas.List.{append_cancel_right}
use Rattle.std.proofs.lemmas.List.Concat.{flat_map-append}
use Rattle.std.proofs.lemmas.Str.{IsUtf8-encode, IsUtf8-nil, chars-append}
use Rattle.std.specs.Char.{IsScalar, encode_utf8}
use Rattle.std.specs.Str.{chars}
use Rattle.std.specs.Str.Lossy.{utf8_lossy}
use Rattle.utf16_units.specs.Encoding.{char_bytes}
use Rattle.utf8_bytes.specs.Split.{AreItems, IsItem, IsSubpart, Item, good, ill, item_bytes, items_bytes, lossy_char, lossy_chars, split_items, split_tail}
use Rattle.utf8_bytes.proofs.PartLemmas.{subpart_len}
use Rattle.utf8_bytes.proofs.SplitLemmas.{Split-computed}
use Rattle.utf16_transcode.specs.WholeText.{WritesWhole}
use Rattle.utf16_transcode.specs.Stops.{StopsLossy}
use Rattle.utf16_transcode.specs.declared.progress.Stop.{Stop}
use Rattle.utf16_transcode.specs.declared.progress.Stop.TheVariants.{Incomplete, Done, IllFormed, NoSpace}
use Rattle.utf16_transcode.specs.FromUtf8.{text_of_utf8}
use Rattle.utf16_transcode.specs.Utf8Stream.{DecodesUtf8To}
use Rattle.utf16_transcode.proofs.CutLemmas.{text-cut}
use Rattle.utf16_transcode.proofs.DecodesUtf8.{taken_bytes}
use Rattle.utf16_transcode.proofs.FromUtf8Lemmas.{chars-char, valid_to}
use Rattle.utf16_transcode.proofs.EncodeLossyLemmas.{text-empty, utf8_lossy-behind}

-- a character before any bytes
char_then : (c : ℕ) (more : List ℕ) → IsScalar c → text_of_utf8 (encode_utf8 c ++ more) ≡ c ∷ text_of_utf8 more
char_then c more scalar =
    ap chars (utf8_lossy-behind (encode_utf8 c) more (IsUtf8-encode c scalar)) ∙ chars-append (encode_utf8 c) (utf8_lossy more) (IsUtf8-encode c scalar)
    ∙ ap (λ t. t ++ text_of_utf8 more) (chars-char c scalar)

-- an ill-formed subpart before bytes, after which more may follow that decide it
part_then : (part more rest : List ℕ) → IsSubpart part (more ++ rest) → text_of_utf8 (part ++ more) ≡ 0xFFFD ∷ text_of_utf8 more
part_then part more rest is =
    let bytes = part ++ (more ++ rest) in
    let n = length part in
    let m = length more in
    let long = (subpart_len part (more ++ rest) is).0 in
    let behind : drop n bytes ≡ more ++ rest = drop_at part (more ++ rest) n refl in
    let front : take n bytes ≡ part = take_at part (more ++ rest) n refl in
    let cut : take m (drop n bytes) ≡ more = ap (take m) behind ∙ take_at more rest m refl in
    let both : take (n + m) bytes ≡ part ++ more = take-add n m bytes ∙ ap₂ (λ f b. f ++ b) front cut in
    ap text_of_utf8 (sym both)
    ∙ text-cut bytes 0 (Some n) n (valid_to bytes 0 (omega (arith, length-append part (more ++ rest))) IsUtf8-nil is.no_char, sym is.len) refl long m
    ∙ ap (λ b. 0xFFFD ∷ text_of_utf8 b) cut

-- the text of the first items
items_shown : (taken more : List Item) (tail : List ℕ) → AreItems (taken ++ more) tail → text_of_utf8 (items_bytes taken) ≡ lossy_chars taken
items_shown [] more tail are = text-empty [] refl
items_shown (item ∷ taken) more tail are = first item are.0 ∙ ap (λ t. lossy_char item ∷ t) (items_shown taken more tail are.1) where
  bytes : items_bytes (taken ++ more) ++ tail ≡ items_bytes taken ++ (items_bytes more ++ tail)
  bytes = ap (λ b. b ++ tail) (flat_map-append item_bytes taken more) ∙ append_assoc (items_bytes taken) (items_bytes more) tail

  first : (item : Item) → IsItem item (items_bytes (taken ++ more) ++ tail) → text_of_utf8 (item_bytes item ++ items_bytes taken) ≡ lossy_char item ∷ text_of_utf8 (items_bytes taken)
  first (good c) is = char_then c (items_bytes taken) is
  first (ill part) is = part_then part (items_bytes taken) (items_bytes more ++ tail) (subst (IsSubpart part) bytes is)

-- what was written is the text of what was read
pub between : (big : Bool) (utf8 to : List ℕ) (read written : ℕ) → DecodesUtf8To big utf8 to read written
    → take written to ≡ flat_map (char_bytes big) (text_of_utf8 (take read utf8))
between big utf8 to read written d =
    let rest = drop read utf8 in
    let taken = d.decodes.taken in
    let front : take read utf8 ≡ items_bytes taken =
    append_cancel_right (take read utf8) (items_bytes taken) rest
    (take-append-drop read utf8 ∙ sym (taken_bytes utf8 rest taken d.decodes.items d.decodes.tail)) in
    let made = subst (λ i. AreItems i (split_tail utf8)) d.decodes.items (Split-computed utf8).made in
    d.decodes.text
    ∙ ap (flat_map (char_bytes big)) (sym (items_shown taken (split_items rest) (split_tail utf8) made) ∙ ap text_of_utf8 (sym front))

-- the same for a lossy call, which stopped at the end or for lack of space
pub between-lossy : (big : Bool) (utf8 to : List ℕ) (read written left : ℕ) (stop : Stop) → WritesWhole text_of_utf8 (char_bytes big) utf8 to read written
    → StopsLossy text_of_utf8 (char_bytes big) (drop read utf8) left stop → (stop ≡ NoSpace → DecodesUtf8To big utf8 to read written)
    → take written to ≡ flat_map (char_bytes big) (text_of_utf8 (take read utf8))
between-lossy big utf8 to read written left Done shows here full =
    sym (append-nil (take written to))
    ∙ ap (λ t. take written to ++ flat_map (char_bytes big) t) (sym (text-empty (drop read utf8) (ap length here)))
    ∙ sym shows.shown ∙ ap (λ b. flat_map (char_bytes big) (text_of_utf8 b)) (sym (take-append-drop read utf8) ∙ ap (λ r. take read utf8 ++ r) here ∙ append-nil (take read utf8))
between-lossy big utf8 to read written left (IllFormed len) shows here full = absurd here
between-lossy big utf8 to read written left Incomplete shows here full = absurd here
between-lossy big utf8 to read written left NoSpace shows here full = between big utf8 to read written (full refl)
