-- The split computed of known ill-formed bytes: evaluation checks each row.
use Rattle.std.specs.Prelude.{◌≡◌, ℕ, Bool, true, false, List, [], ◌∷◌, refl, bytes_eq}
use Rattle.std.specs.List.{flat_map, list_all}
use Rattle.utf16_units.specs.IllFormed.{is_incomplete}
use Rattle.utf16_units.specs.Split.{Item, good, lone_trail, lone_lead, whole_lossy_chars, put_leading, put_unit, split_items, split_tail}

-- bytes in a byte order, the items and the tail of their split, and its lossy text
record Row : Type 0 where
  order : Bool
  bytes : List ℕ
  items : List Item
  tail : List ℕ
  text : List ℕ

-- an item as two numbers: its kind, and the character or unit
abbrev item_numbers : Item → List ℕ
item_numbers (good c) = 0 ∷ c ∷ []
item_numbers (lone_trail unit) = 1 ∷ unit ∷ []
item_numbers (lone_lead unit) = 2 ∷ unit ∷ []

abbrev both : Bool → Bool → Bool
both true b = b
both false b = false

abbrev holds : Row → Bool
holds row =
    let items = split_items row.order row.bytes in
    let tail = split_tail row.order row.bytes in
    both (bytes_eq (flat_map item_numbers items) (flat_map item_numbers row.items)) (both (bytes_eq tail row.tail) (bytes_eq (whole_lossy_chars items tail) row.text))

abbrev shown : Bool → List ℕ → List Item → List ℕ → List ℕ → Row
shown order bytes items tail text = record { order = order; bytes = bytes; items = items; tail = tail; text = text }

abbrev rows : List Row
rows =
    shown false (0x00 ∷ 0xDC ∷ []) (lone_trail 0xDC00 ∷ []) [] (0xFFFD ∷ [])
    ∷ shown false (0x00 ∷ 0xD8 ∷ []) [] (0x00 ∷ 0xD8 ∷ []) (0xFFFD ∷ [])
    ∷ shown false (0x00 ∷ 0xD8 ∷ 0x00 ∷ []) [] (0x00 ∷ 0xD8 ∷ 0x00 ∷ []) (0xFFFD ∷ [])
    ∷ shown false (0xDC ∷ []) [] (0xDC ∷ []) (0xFFFD ∷ [])
    ∷ shown false (0x41 ∷ []) [] (0x41 ∷ []) (0xFFFD ∷ [])
    ∷ shown false (0x00 ∷ 0xD8 ∷ 0x41 ∷ 0x00 ∷ []) (lone_lead 0xD800 ∷ good 0x41 ∷ []) [] (0xFFFD ∷ 0x41 ∷ [])
    ∷ shown false (0x00 ∷ 0xD8 ∷ 0x00 ∷ 0xD8 ∷ []) (lone_lead 0xD800 ∷ []) (0x00 ∷ 0xD8 ∷ []) (0xFFFD ∷ 0xFFFD ∷ [])
    ∷ shown false (0x00 ∷ 0xDC ∷ 0x00 ∷ 0xD8 ∷ []) (lone_trail 0xDC00 ∷ []) (0x00 ∷ 0xD8 ∷ []) (0xFFFD ∷ 0xFFFD ∷ [])
    ∷ shown false (0x00 ∷ 0xD8 ∷ 0x00 ∷ 0xDC ∷ 0x00 ∷ 0xD8 ∷ 0x00 ∷ 0xDC ∷ 0x00 ∷ []) (good 0x10000 ∷ good 0x10000 ∷ []) (0x00 ∷ []) (0x10000 ∷ 0x10000 ∷ 0xFFFD ∷ [])
    ∷ shown true (0xDC ∷ []) [] (0xDC ∷ []) (0xFFFD ∷ [])
    ∷ shown true (0xD8 ∷ []) [] (0xD8 ∷ []) (0xFFFD ∷ [])
    ∷ shown true (0xD8 ∷ 0x00 ∷ 0xDC ∷ []) [] (0xD8 ∷ 0x00 ∷ 0xDC ∷ []) (0xFFFD ∷ [])
    ∷ shown true (0xD8 ∷ 0x00 ∷ 0x00 ∷ []) [] (0xD8 ∷ 0x00 ∷ 0x00 ∷ []) (0xFFFD ∷ [])
    ∷ shown true (0x00 ∷ 0x41 ∷ 0xD8 ∷ 0x00 ∷ []) (good 0x41 ∷ []) (0xD8 ∷ 0x00 ∷ []) (0x41 ∷ 0xFFFD ∷ [])
    ∷ shown false (0x00 ∷ 0xD8 ∷ 0x00 ∷ 0xD8 ∷ 0x00 ∷ 0xDC ∷ []) (lone_lead 0xD800 ∷ good 0x10000 ∷ []) [] (0xFFFD ∷ 0x10000 ∷ [])
    ∷ shown false (0x00 ∷ 0xD8 ∷ 0x00 ∷ 0xD8 ∷ 0x00 ∷ []) (lone_lead 0xD800 ∷ []) (0x00 ∷ 0xD8 ∷ 0x00 ∷ []) (0xFFFD ∷ 0xFFFD ∷ [])
    ∷ []

rows_shown : list_all holds rows ≡ true
unfolding is_incomplete put_leading put_unit split_items split_tail
rows_shown = refl
