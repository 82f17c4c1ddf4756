-- UTF-16 that is written in WTF-8: what is written for any bytes, and why a call stopped.
use Rattle.std.specs.Prelude.{◌≡◌, ℕ, Bool, List, [], ◌∷◌, length}
use Rattle.utf16_units.specs.Encoding.{units_of}
use Rattle.utf16_units.specs.Split.{Item, good, lone_lead, lone_trail, split_items, split_tail}
use Rattle.utf16_units.specs.Unit.{unit_of}
use Rattle.utf16_transcode.specs.StreamSplit.{StreamSplit}
use Rattle.utf16_transcode.specs.Stops.{TextDoesNotFit}
use Rattle.utf16_transcode.specs.Transcoded.{DecodesAsTo}
use Rattle.utf16_transcode.specs.declared.progress.Stop.{Stop}
use Rattle.utf16_transcode.specs.declared.progress.Stop.TheVariants.{Incomplete, Done, IllFormed, NoSpace}
use Rattle.utf16_wtf8.specs.Wtf8.{code_points, generalized_utf8}

-- the code point of an item of UTF-16: of a character itself, and of an unpaired surrogate itself
abbrev pub item_point : Item → ℕ
item_point (good c) = c
item_point (lone_trail unit) = unit
item_point (lone_lead unit) = unit

-- the code point of a tail if no more bytes come: its whole unit, a leading surrogate. A last odd
-- byte is not a unit
abbrev pub tail_points : Bool → List ℕ → List ℕ
tail_points big [] = []
tail_points big (last ∷ []) = []
tail_points big (first ∷ second ∷ after) = unit_of big first second ∷ []

-- the code points of UTF-16 bytes, which may have unpaired surrogates; a last odd byte is in none
abbrev pub points_of : Bool → List ℕ → List ℕ
points_of big raw = code_points (units_of big raw)

-- UTF-16 as characters and unpaired surrogates, each written as itself
abbrev pub wtf8_split : Bool → StreamSplit
wtf8_split big = record {
  Item = Item;
  items = split_items big;
  tail = split_tail big;
  shown = item_point;
  at_end = tail_points big;
  whole = points_of big;
}

-- the first bytes of UTF-16 were decoded, and their code points are at the start of the buffer in
-- WTF-8
abbrev pub DecodesToWtf8 : Bool → List ℕ → List ℕ → ℕ → ℕ → Type 0
DecodesToWtf8 big = DecodesAsTo (wtf8_split big) generalized_utf8

-- for a call that writes all code units: nothing is left, or an odd byte, or the next code point
-- does not fit
abbrev pub StopsToWtf8 : Bool → List ℕ → ℕ → Stop → Type 0
StopsToWtf8 big rest left Done = rest ≡ []
StopsToWtf8 big rest left (IllFormed len) = ⊥
StopsToWtf8 big rest left Incomplete = length rest ≡ 1
StopsToWtf8 big rest left NoSpace = TextDoesNotFit generalized_utf8 (points_of big rest) left
