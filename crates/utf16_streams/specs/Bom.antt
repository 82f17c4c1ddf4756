-- What the BOM at the beginning of a stream means (Unicode, section 23.8: byte order mark).
use Rattle.std.specs.Prelude.{ℕ, ◌&&◌, ◌||◌, Bool, false, not, List, ◌∷◌, Option, Some, None, drop, if◌then◌else◌}
use Rattle.std.specs.Bool.{◌==◌}
use Rattle.utf16_units.specs.Split.{Item, split_items, split_tail}

-- the bytes begin with these two
abbrev pub begins_with : ℕ → ℕ → List ℕ → Bool
begins_with a b (first ∷ second ∷ bytes) = (first == a) && (second == b)
begins_with a b bytes = false

-- the stream begins with U+FEFF, in either byte order (Unicode, section 23.8: byte order mark)
abbrev pub has_bom : List ℕ → Bool
has_bom bytes = begins_with 0xFE 0xFF bytes || begins_with 0xFF 0xFE bytes

-- the stream is big endian unless it begins with the BOM in little endian (Unicode, section 3.10:
-- UTF-16 encoding scheme)
abbrev pub is_big : List ℕ → Bool
is_big bytes = not (begins_with 0xFF 0xFE bytes)

-- the stream without its BOM, which is not part of the text (Unicode, section 3.10: UTF-16 encoding
-- scheme)
abbrev pub after_bom : List ℕ → List ℕ
after_bom bytes = if has_bom bytes then drop 2 bytes else bytes

-- Below, an order is `Some true` for big endian, `Some false` for little endian, and `None` if the
-- BOM gives it.

-- the byte order that the bytes are decoded in
abbrev pub big_in : Option Bool → List ℕ → Bool
big_in (Some big) bytes = big
big_in None bytes = is_big bytes

-- the bytes that are decoded as text: if the order is given, all of them, a BOM included
abbrev pub text_in : Option Bool → List ℕ → List ℕ
text_in (Some big) bytes = bytes
text_in None bytes = after_bom bytes

-- the order for what follows the bytes: it is decided once two bytes have come
abbrev pub byte_order_after : Option Bool → List ℕ → Option Bool
byte_order_after (Some big) bytes = Some big
byte_order_after None (first ∷ second ∷ bytes) = Some (is_big (first ∷ second ∷ bytes))
byte_order_after None bytes = None

-- the items of the split of the text's bytes
abbrev pub items_in : Option Bool → List ℕ → List Item
items_in order bytes = split_items (big_in order bytes) (text_in order bytes)

-- the tail of that split
abbrev pub tail_in : Option Bool → List ℕ → List ℕ
tail_in order bytes = split_tail (big_in order bytes) (text_in order bytes)
