-- The report on any bytes: a line for each ill-formed sequence of their split, and a last line that
-- counts.
use Rattle.std.specs.Prelude.{ℕ, ◌+◌, ◌-◌, Bool, true, false, not, List, [], ◌∷◌, ◌++◌, Option, codes, count_by, decimal, length}
use Rattle.std.specs.Fmt.{digits}
use Rattle.std.specs.List.{flat_map}
use Rattle.utf16_units.specs.Split.{Item, good, item_bytes, lone_lead, lone_trail, split_items, split_tail}
use Rattle.utf16_streams.specs.Bom.{big_in, text_in}
use Rattle.utf16_program.specs.Order.{bom_len}

-- an offset, in hexadecimal and in decimal
abbrev pub offset_text : ℕ → List ℕ
offset_text offset = codes "0x" ++ digits 16 true offset ++ codes " (" ++ decimal offset ++ codes ")"

-- the line of the item at an offset; a character has none
abbrev pub ill_formed_line : ℕ → Item → List ℕ
ill_formed_line offset (good c) = []
ill_formed_line offset (lone_trail unit) = offset_text offset ++ codes ": unpaired trailing surrogate " ++ digits 16 true unit ++ codes "\n"
ill_formed_line offset (lone_lead unit) = offset_text offset ++ codes ": unpaired leading surrogate " ++ digits 16 true unit ++ codes "\n"

-- each item, and the offset of its first byte if the first item is at `offset`
abbrev pub placed : Bool → ℕ → List Item → List (ℕ × Item)
placed big offset [] = []
placed big offset (item ∷ items) = (offset, item) ∷ placed big (offset + length (item_bytes big item)) items

-- the lines of items, the first of which is at `offset`
abbrev pub ill_formed_lines : Bool → ℕ → List Item → List ℕ
ill_formed_lines big offset items = flat_map (λ (at, item). ill_formed_line at item) (placed big offset items)

-- the line of a truncated character, which is left at an offset at the end
abbrev pub tail_line : ℕ → List ℕ → List ℕ
tail_line offset [] = []
tail_line offset (first ∷ after) = offset_text offset ++ codes ": incomplete character\n"

-- the last line
abbrev pub count_line : ℕ → ℕ → ℕ → List ℕ
count_line bytes chars ill_formed = codes "bytes: " ++ decimal bytes ++ codes ", characters: " ++ decimal chars ++ codes ", ill-formed: " ++ decimal ill_formed ++ codes "\n"

-- an item that is a character
abbrev pub is_char : Item → Bool
is_char (good c) = true
is_char (lone_trail unit) = false
is_char (lone_lead unit) = false

-- an item that is an unpaired surrogate
abbrev pub is_ill_formed : Item → Bool
is_ill_formed item = not (is_char item)

-- a tail is one ill-formed sequence more
abbrev pub tail_ill_formed : List ℕ → ℕ
tail_ill_formed [] = 0
tail_ill_formed (first ∷ after) = 1

-- the lines after the items: the line of an input's tail, if there is one, and the last line; `end`
-- is the length of the input
abbrev pub closing : ℕ → ℕ → ℕ → List ℕ → List ℕ
closing end chars unpaired tail = tail_line (end - length tail) tail ++ count_line end chars (unpaired + tail_ill_formed tail)

module _ (order : Option Bool) where
  -- the items of the text, and what is left at its end
  abbrev pub items_in : List ℕ → List Item
  items_in bytes = split_items (big_in order bytes) (text_in order bytes)

  abbrev pub tail_in : List ℕ → List ℕ
  tail_in bytes = split_tail (big_in order bytes) (text_in order bytes)

  -- Below, `offset` bytes are before `bytes`, and have `chars` characters and `unpaired` unpaired
  -- surrogates.

  -- the lines of the items
  abbrev pub lines_from : ℕ → List ℕ → List ℕ
  lines_from offset bytes = ill_formed_lines (big_in order bytes) (offset + bom_len order bytes) (items_in bytes)

  -- the number of ill-formed sequences, if the input ends with these bytes
  abbrev pub ill_formed_from : ℕ → List ℕ → ℕ
  ill_formed_from unpaired bytes = (unpaired + count_by is_ill_formed (items_in bytes)) + tail_ill_formed (tail_in bytes)

  -- the lines, if the input ends with these bytes
  abbrev pub report_from : ℕ → ℕ → ℕ → List ℕ → List ℕ
  report_from offset chars unpaired bytes = lines_from offset bytes
      ++ closing (offset + length bytes) (chars + count_by is_char (items_in bytes)) (unpaired + count_by is_ill_formed (items_in bytes)) (tail_in bytes)

  -- the lines that are certain once these bytes of an input have come
  abbrev pub lines : List ℕ → List ℕ
  lines = lines_from 0

  -- the report on a whole input
  abbrev pub report : List ℕ → List ℕ
  report = report_from 0 0 0
