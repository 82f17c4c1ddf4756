-- One step of decoding: some of the bytes are decoded, and their text is appended.
use Rattle.std.specs.Prelude.{◌≡◌, ℕ, Bool, List, ◌++◌, [], map}
use Rattle.std.specs.Char.{encode_utf8}
use Rattle.std.specs.List.{flat_map}
use Rattle.utf16_units.specs.Split.{Item, lossy_char, lossy_text, split_items, split_tail, whole_lossy_chars}
use Rattle.utf16_transcode.specs.StreamSplit.{StreamSplit}

-- the first items of the bytes were decoded, what is shown for them was appended to the old bytes,
-- and the rest has the other items and the tail
pub record DecodesAs (parts : StreamSplit) (into : ℕ → List ℕ) (bytes rest old new : List ℕ) : Type 0 where
  pub taken : List parts.Item
  pub items : parts.items bytes ≡ taken ++ parts.items rest
  pub tail : parts.tail bytes ≡ parts.tail rest
  pub text : new ≡ old ++ flat_map into (map parts.shown taken)

-- UTF-16 as characters and unpaired surrogates, with U+FFFD for each unpaired surrogate and for a
-- tail
abbrev pub utf16_split : Bool → StreamSplit
utf16_split big = record {
  Item = Item;
  items = split_items big;
  tail = split_tail big;
  shown = lossy_char;
  at_end = whole_lossy_chars [];
  whole = lossy_text big;
}

-- a step from UTF-16 to UTF-8
abbrev pub Decodes : Bool → List ℕ → List ℕ → List ℕ → List ℕ → Type 0
Decodes big = DecodesAs (utf16_split big) encode_utf8
