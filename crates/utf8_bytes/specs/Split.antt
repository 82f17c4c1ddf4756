-- The split, or decomposition, of any bytes into the characters of UTF-8, ill-formed subparts, and
-- a tail that more bytes could decide.
use Rattle.std.specs.Prelude.{◌≡◌, ◌≢◌, ℕ, zero, suc, List, [], ◌∷◌, ◌++◌, Option, None, Some, length, map, take, drop}
use Rattle.std.specs.Char.{IsScalar, encode_utf8}
use Rattle.std.specs.List.{flat_map}
use Rattle.std.specs.Str.{StartsWithNoChar, chars}
use Rattle.std.specs.Str.Lossy.{utf8_error_len, utf8_valid_len}

-- a character, or the bytes of a maximal subpart of an ill-formed subsequence (Unicode, section
-- 3.9)
pub data Item : Type 0 where
  good : ℕ → Item
  ill : List ℕ → Item

-- the bytes of a character, or of the ill-formed subpart
abbrev pub item_bytes : Item → List ℕ
item_bytes (good c) = encode_utf8 c
item_bytes (ill part) = part

-- the bytes of items, one after another
abbrev pub items_bytes : List Item → List ℕ
items_bytes items = flat_map item_bytes items

-- no character begins where the part begins, and std's error for the bytes from there on has the
-- part's length (Unicode, section 3.9: maximal subpart)
pub record IsSubpart (part rest : List ℕ) : Type 0 where
  pub no_char : StartsWithNoChar (part ++ rest)
  pub len : utf8_error_len (part ++ rest) ≡ Some (length part)

-- what an item is if the bytes `rest` follow it: a scalar value, or an ill-formed subpart
abbrev pub IsItem : Item → List ℕ → Type 0
IsItem (good c) rest = IsScalar c
IsItem (ill part) rest = IsSubpart part rest

-- each item is an item if the other items and then the tail follow it
abbrev pub AreItems : List Item → List ℕ → Type 0
AreItems [] tail = Unit {0}
AreItems (item ∷ items) tail = IsItem item (items_bytes items ++ tail) × AreItems items tail

-- what may be left at the end: bytes that more bytes complete to one character, so at most three
pub record IsTail (tail : List ℕ) : Type 0 where
  pub char : ℕ
  pub more : List ℕ
  pub scalar : IsScalar char
  pub some : more ≢ []
  pub spelled : tail ++ more ≡ encode_utf8 char

-- the bytes are the bytes of the items, followed by the tail
pub record Split (bytes : List ℕ) (items : List Item) (tail : List ℕ) : Type 0 where
  pub made : AreItems items tail
  pub spelled : items_bytes items ++ tail ≡ bytes
  pub ends : IsTail tail

-- the character of an item: U+FFFD, the replacement character, for an ill-formed subpart (Unicode,
-- section 3.9: U+FFFD substitution of maximal subparts)
abbrev pub lossy_char : Item → ℕ
lossy_char (good c) = c
lossy_char (ill part) = 0xFFFD

-- the text of items, with U+FFFD for ill-formed subparts
abbrev pub lossy_chars : List Item → List ℕ
lossy_chars items = map lossy_char items

-- the whole lossy text: one more U+FFFD if a tail is left
abbrev pub whole_lossy_chars : List Item → List ℕ → List ℕ
whole_lossy_chars items [] = lossy_chars items
whole_lossy_chars items (first ∷ after) = lossy_chars items ++ 0xFFFD ∷ []

-- the items of bytes that do not begin with a character: the ill-formed subpart, if the error has a
-- length, and then the items of the bytes after it
abbrev pub items_at : Option ℕ → List ℕ → (List ℕ → List Item) → List Item
items_at None bytes next = []
items_at (Some len) bytes next = ill (take len bytes) ∷ next (drop len bytes)

-- the tail of such bytes: the bytes themselves, if the error has no length
abbrev pub tail_at : Option ℕ → List ℕ → (List ℕ → List ℕ) → List ℕ
tail_at None bytes next = bytes
tail_at (Some len) bytes next = next (drop len bytes)

-- the bytes after the longest valid prefix
abbrev pub after_valid : List ℕ → List ℕ
after_valid bytes = drop (utf8_valid_len bytes) bytes

-- the items of the split, for at most k bytes: the characters of the longest valid prefix, and the
-- items of the bytes after it
abbrev pub split_items_within : ℕ → List ℕ → List Item
split_items_within zero bytes = []
split_items_within (suc k) bytes =
    let rest = after_valid bytes in
    map good (chars (take (utf8_valid_len bytes) bytes)) ++ items_at (utf8_error_len rest) rest (λ b. split_items_within k b)

-- the tail of the split, for at most k bytes
abbrev pub split_tail_within : ℕ → List ℕ → List ℕ
split_tail_within zero bytes = []
split_tail_within (suc k) bytes =
    let rest = after_valid bytes in
    tail_at (utf8_error_len rest) rest (λ b. split_tail_within k b)

-- the items of the split, computed; a truncated character at the end is in no item
unfoldable pub split_items : List ℕ → List Item
split_items bytes = split_items_within (length bytes) bytes

-- the tail of the split, computed: the truncated character at the end
unfoldable pub split_tail : List ℕ → List ℕ
split_tail bytes = split_tail_within (length bytes) bytes

-- the text that bytes decide, with U+FFFD for each ill-formed subpart
abbrev pub decided_text : List ℕ → List ℕ
decided_text bytes = lossy_chars (split_items bytes)

-- the lossy text of any bytes: one more U+FFFD if a tail is left
abbrev pub lossy_text : List ℕ → List ℕ
lossy_text bytes = whole_lossy_chars (split_items bytes) (split_tail bytes)
