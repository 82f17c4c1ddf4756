-- The most bytes that the UTF-8 and the UTF-16 of any bytes have, and that a call with this
-- capacity does not stop for lack of space.
use Rattle.std.proofs.Common.{◌≡◌, ◌≢◌, ℕ, zero, suc, ◌+◌, ◌*◌, ◌/◌, ◌%◌, ◌<◌, ◌≤◌, Bool, List, [], ◌∷◌, ◌++◌, ◌-◌, length, map, take, drop, encode_utf8_all, refl, sym, ap, ◌∙◌, subst, ⊎_elim, arith, length-append, length-take-le, append-nil}
use Rattle.std.proofs.lemmas.Bool.{cases_lt}
use Rattle.std.proofs.lemmas.List.{take-append-drop}
use Rattle.std.proofs.lemmas.List.Concat.{flat_map-append}
use Rattle.std.specs.Char.{encode_utf8}
use Rattle.std.specs.List.{flat_map}
use Rattle.std.specs.Str.{chars}
use Rattle.std.specs.Str.Lossy.{utf8_valid_len}
use Rattle.utf16_transcode.specs.Decodes.{utf16_split}
use Rattle.utf16_transcode.specs.StreamSplit.{StreamSplit, IsSplitInChunks, decided}
use Rattle.utf16_transcode.specs.WholeText.{WritesWhole}
use Rattle.utf16_transcode.specs.Stops.{StopsPartial, StopsLossy, TextDoesNotFit, Stops, IsIllFormedUtf16}
use Rattle.utf16_transcode.specs.Transcoded.{DecodesAsTo, TranscodesToUtf8, Writes}
use Rattle.utf16_transcode.specs.declared.progress.Stop.{Stop}
use Rattle.utf16_transcode.specs.declared.progress.Stop.TheVariants.{Incomplete, Done, IllFormed, NoSpace}
use Rattle.utf16_transcode.proofs.DecodesSteps.{written_for, written_for-append}
use Rattle.utf16_transcode.proofs.DecodeLossyLemmas.{DecodesTo-front, stops_lossy}
use Rattle.utf16_transcode.specs.FromUtf8.{TranscodesToUtf16, text_of_utf8, IsIllFormedUtf8}
use Rattle.utf16_transcode.specs.Utf8Stream.{utf8_split}
use Rattle.utf16_transcode.proofs.DecodesUtf8.{DecodesUtf8To-text, stops_text}
use Rattle.utf16_transcode.proofs.FeedsUtf8.{flat_size}
use Rattle.utf16_transcode.proofs.EncodeLossyLemmas.{chunk-most}
use Rattle.utf16_units.specs.Encoding.{char_bytes, size}
use Rattle.utf16_units.specs.Split.{Item, decided_text, whole_lossy_chars, good, item_bytes, items_bytes, lone_lead, lone_trail, lossy_text, lossy_char, lossy_chars, split_items, split_tail}
use Rattle.utf16_units.proofs.CharLemmas.{char_size_four, char_size_two, length-char_bytes}
use Rattle.utf16_units.proofs.FirstChar.{AreBytes}
use Rattle.utf16_units.proofs.ShownLemmas.{len_utf8-le}
use Rattle.utf16_units.proofs.SplitLemmas.{Split-computed}
use Rattle.utf16_units.proofs.UnitLemmas.{length-unit_bytes}
use Rattle.utf8_bytes.specs.Split.{decided_text as utf8_decided_text}
use Rattle.utf8_bytes.proofs.LawProofs.{shown_within, whole_is_lossy}
use Rattle.utf8_bytes.proofs.ValidLemmas.{front_valid}

mark_len : length (encode_utf8 0xFFFD) ≡ 3
unfolding encode_utf8
mark_len = refl

-- if the bytes are whole code units, the UTF-8 takes at most three bytes for each unit
abbrev AreWithin : ℕ → ℕ → Type 0
AreWithin utf16 utf8 = (utf16 % 2 ≡ 0) × (2 * utf8 ≤ 3 * utf16)

item_within : (big : Bool) (item : Item) → AreWithin (length (item_bytes big item)) (length (encode_utf8 (lossy_char item)))
item_within big (good c) =
    let long = length-char_bytes big c in
    let most = len_utf8-le c in
    ⊎_elim
    (λ (one : c < 0x1_0000).
    let two = char_size_two c one in
    (omega arith, omega arith))
    (λ (pair : 0x1_0000 ≤ c).
    let four = char_size_four c pair in
    (omega arith, omega arith))
    (cases_lt c 0x1_0000)
item_within big (lone_trail unit) =
    let two = length-unit_bytes big unit in
    (omega arith, omega (arith, two, mark_len))
item_within big (lone_lead unit) =
    let two = length-unit_bytes big unit in
    (omega arith, omega (arith, two, mark_len))

items_within : (big : Bool) (items : List Item) → AreWithin (length (items_bytes big items)) (length (encode_utf8_all (lossy_chars items)))
items_within big [] = (omega arith, omega arith)
items_within big (item ∷ items) =
    let first = item_within big item in
    let rest = items_within big items in
    let bytes = length-append (item_bytes big item) (items_bytes big items) in
    let utf8 = length-append (encode_utf8 (lossy_char item)) (encode_utf8_all (lossy_chars items)) in
    (omega arith, omega arith)

whole_within : (big : Bool) (items : List Item) (tail : List ℕ)
    → length (encode_utf8_all (whole_lossy_chars items tail)) ≤ (length (items_bytes big items) + length tail + 1) / 2 * 3
whole_within big items [] =
    let within = items_within big items in
    omega arith
whole_within big items (first ∷ after) =
    let within = items_within big items in
    let both =
    ap length (flat_map-append encode_utf8 (lossy_chars items) (0xFFFD ∷ [])) ∙ length-append (encode_utf8_all (lossy_chars items)) (encode_utf8_all (0xFFFD ∷ [])) in
    let last = ap length (append-nil (encode_utf8 0xFFFD)) in
    omega (arith, mark_len)

-- the UTF-8 of any bytes, with U+FFFD for what is ill formed
pub lossy_within : (big : Bool) (bytes : List ℕ) → AreBytes bytes → length (encode_utf8_all (lossy_text big bytes)) ≤ (length bytes + 1) / 2 * 3
lossy_within big bytes are =
    let split = Split-computed big bytes are in
    let all = sym (length-append (items_bytes big (split_items big bytes)) (split_tail big bytes)) ∙ ap length split.spelled in
    let within = whole_within big (split_items big bytes) (split_tail big bytes) in
    omega arith

-- the UTF-16 of the longest well-formed prefix of UTF-8
pub valid_within : (bytes : List ℕ) → size (chars (take (utf8_valid_len bytes) bytes)) ≤ 2 * length bytes
valid_within bytes =
    let n = utf8_valid_len bytes in
    let most = chunk-most bytes (take n bytes) [] (drop n bytes) (front_valid bytes) (sym (take-append-drop n bytes)) in
    omega arith

-- a call with capacity for the whole text does not stop for lack of space
pub whole_is_longer : (text : List ℕ → List ℕ) (into : ℕ → List ℕ) (input to : List ℕ) (read written : ℕ) → WritesWhole text into input to read written
    → TextDoesNotFit into (text (drop read input)) (length to - written) → length to < length (flat_map into (text input))
whole_is_longer text into input to read written shows next =
    let all = ap length shows.shown ∙ length-append (take written to) (flat_map into (text (drop read input))) in
    let first = length-take-le written to shows.fits in
    let rest = ap (λ t. length (flat_map into t)) next.begins ∙ length-append (into next.char) (flat_map into next.more) in
    omega (arith, next.too_long)

-- so it comes to its end
pub whole_is_done : (text : List ℕ → List ℕ) (into : ℕ → List ℕ) (input to : List ℕ) (read written : ℕ) (stop : Stop)
    → WritesWhole text into input to read written → StopsLossy text into (drop read input) (length to - written) stop
    → length (flat_map into (text input)) ≤ length to → stop ≡ Done
whole_is_done text into input to read written Done shows stops fits = refl
whole_is_done text into input to read written (IllFormed len) shows stops fits = absurd stops
whole_is_done text into input to read written Incomplete shows stops fits = absurd stops
whole_is_done text into input to read written NoSpace shows stops fits = absurd (omega (arith, fits, whole_is_longer text into input to read written shows stops))

-- the UTF-8 of what is certain of any bytes
pub decided_within : (big : Bool) (bytes : List ℕ) → AreBytes bytes → length (encode_utf8_all (decided_text big bytes)) ≤ length bytes / 2 * 3
decided_within big bytes are =
    let split = Split-computed big bytes are in
    let all = sym (length-append (items_bytes big (split_items big bytes)) (split_tail big bytes)) ∙ ap length split.spelled in
    let within = items_within big (split_items big bytes) in
    omega arith

pub are_bytes : (front back : List ℕ) → AreBytes front → AreBytes back → AreBytes (front ++ back)
are_bytes [] back first second k = second k
are_bytes (b ∷ front) back first second zero = first 0
are_bytes (b ∷ front) back first second (suc k) = are_bytes front back (λ i. first (suc i)) second k

-- the same for a chunk and at most three pending bytes before it
pub fed_within : (big : Bool) (pending chunk : List ℕ) → length pending ≤ 3 → AreBytes pending → AreBytes chunk
    → length (encode_utf8_all (decided_text big (pending ++ chunk))) ≤ (length chunk + 3) / 2 * 3
fed_within big pending chunk few first second =
    let all = length-append pending chunk in
    let within = decided_within big (pending ++ chunk) (are_bytes pending chunk first second) in
    omega arith

-- a call that decodes
module _ (parts : StreamSplit) (into : ℕ → List ℕ) (input to : List ℕ) (read written : ℕ) (decodes : DecodesAsTo parts into input to read written) where
  decided_long : length (flat_map into (decided parts input)) ≡ written + length (flat_map into (decided parts (drop read input)))
  decided_long =
      let d = decodes.decodes in
      ap length (ap (written_for parts into) d.items ∙ written_for-append parts into d.taken (parts.items (drop read input)) ∙ ap (λ t. t ++ flat_map into (decided parts (drop read input))) (sym d.text))
      ∙ length-append (take written to) (flat_map into (decided parts (drop read input)))
      ∙ ap (λ n. n + length (flat_map into (decided parts (drop read input)))) (length-take-le written to decodes.fits)

  -- it does not stop for lack of space if all that is certain fits
  pub decided_fits : (stop : Stop) → StopsPartial parts into (drop read input) (length to - written) stop → length (flat_map into (decided parts input)) ≤ length to
      → stop ≢ NoSpace
  decided_fits stop here fits full =
      let next = subst (StopsPartial parts into (drop read input) (length to - written)) full here in
      let rest = ap (λ t. length (flat_map into t)) next.begins ∙ length-append (into next.char) (flat_map into next.more) in
      omega (arith, next.too_long, decided_long)

  module _ (short : (c : ℕ) → length (into c) ≤ 4) where
    -- if it does, fewer bytes are left than a character may take
    pub decided_filled : (stop : Stop) → StopsPartial parts into (drop read input) (length to - written) stop → stop ≡ NoSpace → length to < written + 4
    decided_filled stop here full =
        let next = subst (StopsPartial parts into (drop read input) (length to - written)) full here in
        omega (arith, next.too_long, short next.char)

    -- with space for a character, and bytes of which something is certain, the call reads something
    pub decided_advances : IsSplitInChunks parts → 4 ≤ length to → decided parts input ≢ [] → (stop : Stop)
        → StopsPartial parts into (drop read input) (length to - written) stop → 0 < read
    decided_advances split room some stop here = ⊎_elim (λ (none : read < 1). absurd (unread (omega arith) stop here)) (λ (read_some : 1 ≤ read). omega arith) (cases_lt read 1) where
      undecided : read ≡ 0 → parts.tail (drop read input) ≡ drop read input → ⊥
      undecided none left = some (ap (λ n. decided parts (drop n input)) (sym none) ∙ ap (map parts.shown) (split.undecided (drop read input) left))

      unread : read ≡ 0 → (stop : Stop) → StopsPartial parts into (drop read input) (length to - written) stop → ⊥
      unread none Done here = undecided none (ap parts.tail here ∙ split.nothing ∙ sym here)
      unread none (IllFormed len) here = absurd here
      unread none Incomplete here = undecided none here.1
      unread none NoSpace here =
          let all = decided_long in
          let same = ap (λ n. length (flat_map into (decided parts (drop n input)))) none in
          omega (arith, here.too_long, short here.char)

-- ---- lemmas for the calls

module _ (big : Bool) (input to : List ℕ) (read written : ℕ) where
  pub to_utf8_fits : (stop : Stop) → AreBytes input → Writes (TranscodesToUtf8 big) input to read written → Stops (char_bytes big) encode_utf8 (IsIllFormedUtf16 big) input read (length to - written) stop
      → length input / 2 * 3 ≤ length to → stop ≢ NoSpace
  to_utf8_fits stop are wrote here fits full =
      let decodes = DecodesTo-front big input to read written wrote.within wrote.fits wrote.gives in
      let most = decided_within big input are in
      decided_fits (utf16_split big) encode_utf8 input to read written decodes stop
      (stops_lossy big input read (length to - written) stop (λ len fault. (let same = sym fault ∙ full in cc)) here) (omega arith) full

  pub from_utf8_fits : (stop : Stop) → Writes (TranscodesToUtf16 big) input to read written → Stops encode_utf8 (char_bytes big) IsIllFormedUtf8 input read (length to - written) stop
      → 2 * length input ≤ length to → stop ≢ NoSpace
  from_utf8_fits stop wrote here fits full =
      let most = (shown_within input).2 in
      let long = flat_size big (utf8_decided_text input) in
      decided_fits utf8_split (char_bytes big) input to read written (DecodesUtf8To-text big input to read written wrote) stop
      (stops_text big input read (length to - written) stop (λ len fault. (let same = sym fault ∙ full in cc)) here) (omega arith) full

-- the whole text of UTF-8 in UTF-16
pub lossy_utf8_within : (big : Bool) (bytes : List ℕ) → length (flat_map (char_bytes big) (text_of_utf8 bytes)) ≤ 2 * length bytes
lossy_utf8_within big bytes =
    let most = (shown_within bytes).3 in
    let long = flat_size big (text_of_utf8 bytes) in
    let same = ap size (whole_is_lossy bytes) in
    omega arith
