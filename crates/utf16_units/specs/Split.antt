-- The split, or decomposition, of any bytes into characters, unpaired surrogates, and a tail that
-- more bytes could change.
use Rattle.std.specs.Prelude.{◌≡◌, ℕ, ◌≤◌, Bool, List, [], ◌∷◌, ◌++◌, All, length, map, if◌then◌else◌}
use Rattle.std.specs.Char.{IsScalar}
use Rattle.std.specs.Char.Utf16.{is_high_surrogate, is_low_surrogate, surrogate_pair_char}
use Rattle.std.specs.List.{flat_map}
use Rattle.utf16_units.specs.Unit.{IsLeading, IsTrailing, unit_bytes, unit_of}
use Rattle.utf16_units.specs.Encoding.{char_bytes}
use Rattle.utf16_units.specs.IllFormed.{is_incomplete}

-- a character, or an unpaired surrogate code unit (Unicode, section 3.8: isolated surrogate code
-- units)
pub data Item : Type 0 where
  good : ℕ → Item
  lone_trail : ℕ → Item
  lone_lead : ℕ → Item

-- a character is a scalar value, and each of the others a surrogate of its class
abbrev pub IsItem : Item → Type 0
IsItem (good c) = IsScalar c
IsItem (lone_trail unit) = IsTrailing unit
IsItem (lone_lead unit) = IsLeading unit

-- the bytes of a character, or of the one unit
abbrev pub item_bytes : Bool → Item → List ℕ
item_bytes big (good c) = char_bytes big c
item_bytes big (lone_trail unit) = unit_bytes big unit
item_bytes big (lone_lead unit) = unit_bytes big unit

-- the bytes of items, one after another
abbrev pub items_bytes : Bool → List Item → List ℕ
items_bytes big items = flat_map (item_bytes big) items

-- what may be left at the end: nothing, one byte, or a leading unit with at most one byte after it
abbrev pub IsTail : Bool → List ℕ → Type 0
IsTail big [] = Unit {0}
IsTail big (last ∷ []) = Unit {0}
IsTail big (first ∷ second ∷ after) = IsLeading (unit_of big first second) × (length after ≤ 1)

-- the bytes start with a whole unit that is not trailing
abbrev pub BeginsUnpaired : Bool → List ℕ → Type 0
BeginsUnpaired big [] = ⊥
BeginsUnpaired big (last ∷ []) = ⊥
BeginsUnpaired big (first ∷ second ∷ after) = ¬ (IsTrailing (unit_of big first second))

-- the bytes are the bytes of the items and then the tail, and each unpaired leading unit is
-- followed by a whole unit that is not trailing (Unicode, section 3.8: surrogate pair)
pub record Split (big : Bool) (bytes : List ℕ) (items : List Item) (tail : List ℕ) : Type 0 where
  pub made : All IsItem items
  pub spelled : items_bytes big items ++ tail ≡ bytes
  pub ends : IsTail big tail
  pub unpaired : (front : List Item) (unit : ℕ) (back : List Item) → front ++ lone_lead unit ∷ back ≡ items
      → BeginsUnpaired big (items_bytes big back ++ tail)

-- the character of an item: U+FFFD, the replacement character, for an unpaired surrogate (Unicode,
-- section 3.9: U+FFFD substitution)
abbrev pub lossy_char : Item → ℕ
lossy_char (good c) = c
lossy_char (lone_trail unit) = 0xFFFD
lossy_char (lone_lead unit) = 0xFFFD

-- the text of items, with U+FFFD for unpaired surrogates
abbrev pub lossy_chars : List Item → List ℕ
lossy_chars items = map lossy_char items

-- the whole lossy text: one more U+FFFD if a tail is left
abbrev pub whole_lossy_chars : List Item → List ℕ → List ℕ
whole_lossy_chars items [] = lossy_chars items
whole_lossy_chars items (first ∷ after) = lossy_chars items ++ 0xFFFD ∷ []

-- a leading unit before items: it makes a pair with an unpaired trailing unit
unfoldable pub put_leading : ℕ → List Item → List Item
put_leading lead (lone_trail trail ∷ items) = good (surrogate_pair_char lead trail) ∷ items
put_leading lead items = lone_lead lead ∷ items

-- a unit before items
unfoldable pub put_unit : ℕ → List Item → List Item
put_unit unit items =
    if is_high_surrogate unit then put_leading unit items else if is_low_surrogate unit then lone_trail unit ∷ items else good unit ∷ items

-- the items of the split, computed from the last unit to the first; a truncated character at the
-- end is in no item
unfoldable pub split_items : Bool → List ℕ → List Item
split_items big [] = []
split_items big (last ∷ []) = []
split_items big (first ∷ second ∷ bytes) =
    if is_incomplete big (first ∷ second ∷ bytes) then [] else put_unit (unit_of big first second) (split_items big bytes)

-- the tail of the split, computed: the truncated character at the end
unfoldable pub split_tail : Bool → List ℕ → List ℕ
split_tail big [] = []
split_tail big (last ∷ []) = last ∷ []
split_tail big (first ∷ second ∷ bytes) =
    if is_incomplete big (first ∷ second ∷ bytes) then first ∷ second ∷ bytes else split_tail big bytes

-- the text that bytes decide, with U+FFFD for each unpaired surrogate
abbrev pub decided_text : Bool → List ℕ → List ℕ
decided_text big bytes = lossy_chars (split_items big bytes)

-- the lossy text of any bytes: one more U+FFFD if a tail is left
abbrev pub lossy_text : Bool → List ℕ → List ℕ
lossy_text big bytes = whole_lossy_chars (split_items big bytes) (split_tail big bytes)
