-- UTF-8 that is written in UTF-16, with U+FFFD for each ill-formed subpart: what a call decoded,
-- why it stopped, and what a chunk of a stream adds.
use Rattle.std.specs.Prelude.{◌≡◌, ℕ, ◌<◌, ◌≤◌, Bool, List, [], ◌∷◌, length, drop}
use Rattle.utf16_units.specs.Encoding.{char_bytes}
use Rattle.utf8_bytes.specs.Split.{Item, lossy_char, split_items, split_tail, whole_lossy_chars}
use Rattle.utf16_transcode.specs.StreamSplit.{StreamSplit}
use Rattle.utf16_transcode.specs.Stream.{FeedsAs}
use Rattle.utf16_transcode.specs.Transcoded.{DecodesAsTo}
use Rattle.utf16_transcode.specs.FromUtf8.{text_of_utf8}

-- UTF-8 as characters and ill-formed subparts, with U+FFFD for each of these and for a tail
abbrev pub utf8_split : StreamSplit
utf8_split = record {
  Item = Item;
  items = split_items;
  tail = split_tail;
  shown = lossy_char;
  at_end = whole_lossy_chars [];
  whole = text_of_utf8;
}

-- the first bytes of UTF-8 were decoded, and their text is at the start of the buffer in UTF-16
abbrev pub DecodesUtf8To : Bool → List ℕ → List ℕ → ℕ → ℕ → Type 0
DecodesUtf8To big = DecodesAsTo utf8_split (char_bytes big)

-- the first item of the bytes has n bytes, and its character is this one: U+FFFD for an ill-formed
-- subpart
pub record FirstItem (bytes : List ℕ) (char n : ℕ) : Type 0 where
  pub item : Item
  pub is : lossy_char item ≡ char
  pub some : 0 < n
  pub within : n ≤ length bytes
  pub items : split_items bytes ≡ item ∷ split_items (drop n bytes)
  pub tail : split_tail bytes ≡ split_tail (drop n bytes)

-- the first bytes of a chunk were taken, and the text of what is decoded is at the start of the
-- buffer in UTF-16
abbrev pub FeedsUtf8 : Bool → List ℕ → List ℕ → List ℕ → List ℕ → ℕ → ℕ → Type 0
FeedsUtf8 big = FeedsAs utf8_split (char_bytes big)
