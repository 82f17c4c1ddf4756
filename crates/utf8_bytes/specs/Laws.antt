-- The laws of the split of UTF-8, for all bytes. Each is a statement about the definitions, and
-- about nothing else.
use Rattle.std.specs.Prelude.{◌≡◌, ◌↔◌, ◌⊎◌, ℕ, ◌+◌, ◌*◌, ◌<◌, ◌≤◌, List, [], ◌∷◌, ◌++◌, None, Some, All, length, take, encode_utf8_all}
use Rattle.std.specs.Char.{IsScalar}
use Rattle.std.specs.List.{concat}
use Rattle.std.specs.Str.{StartsWithNoChar, chars}
use Rattle.std.specs.Str.Lossy.{utf8_error_len, utf8_lossy}
use Rattle.utf16_units.specs.Encoding.{size}
use Rattle.utf8_bytes.specs.Recipe.{Recipe, Resumes}
use Rattle.utf8_bytes.specs.Split.{IsTail, Item, Split, decided_text, item_bytes, lossy_chars, lossy_text, split_items, split_tail, whole_lossy_chars}

-- any bytes have a split (decomposition), the computed one
abbrev pub SplitExists : Type 0
SplitExists = (bytes : List ℕ) → Split bytes (split_items bytes) (split_tail bytes)

-- bytes do not have two splits
abbrev pub SplitUnique : Type 0
SplitUnique = (bytes : List ℕ) (items others : List Item) (tail other : List ℕ) → Split bytes items tail → Split bytes others other
    → (items ≡ others) × (tail ≡ other)

-- with more bytes appended, the items stay, and the items of the tail and these bytes follow them
abbrev pub SplitExtends : Type 0
SplitExtends = (front back : List ℕ)
    → (split_items (front ++ back) ≡ split_items front ++ split_items (split_tail front ++ back))
    × (split_tail (front ++ back) ≡ split_tail (split_tail front ++ back))

-- with more bytes appended, the decoded items stay
abbrev pub ItemsStay : Type 0
ItemsStay = (front back : List ℕ) → take (length (split_items front)) (split_items (front ++ back)) ≡ split_items front

-- the lossy text of a stream cut in two is the text of the first chunk, followed by the text of its
-- tail and the second chunk; this also holds with U+FFFD for a tail that is left at the end
abbrev pub CutAnywhere : Type 0
CutAnywhere = (front back : List ℕ)
    → (decided_text (front ++ back) ≡ decided_text front ++ decided_text (split_tail front ++ back))
    × (lossy_text (front ++ back) ≡ decided_text front ++ lossy_text (split_tail front ++ back))

-- the lossy text of a text's UTF-8 is that text, and the tail is empty
abbrev pub TextIsShown : Type 0
TextIsShown = (text : List ℕ) → All IsScalar text
    → (lossy_chars (split_items (encode_utf8_all text)) ≡ text) × (split_tail (encode_utf8_all text) ≡ [])

-- a reader that resumes with the fields of std's error gets the items' text, with U+FFFD for
-- ill-formed subparts, and what it keeps is the tail
abbrev pub RecipeIsSplit : Type 0
RecipeIsSplit = (bytes text kept : List ℕ) → Recipe bytes text kept ↔ ((text ≡ lossy_chars (split_items bytes)) × (kept ≡ split_tail bytes))

-- a reader that resumes in this way over the chunks of a stream, however it is cut, gets the items'
-- text of the joined chunks, with U+FFFD for ill-formed subparts, and what it keeps is the tail
abbrev pub ResumesIsSplit : Type 0
ResumesIsSplit = (pieces : List (List ℕ)) (text kept : List ℕ)
    → Resumes [] pieces text kept ↔ ((text ≡ lossy_chars (split_items (concat pieces))) × (kept ≡ split_tail (concat pieces)))

-- the whole lossy text is the text of std's `from_utf8_lossy`
abbrev pub WholeIsLossy : Type 0
WholeIsLossy = (bytes : List ℕ) → whole_lossy_chars (split_items bytes) (split_tail bytes) ≡ chars (utf8_lossy bytes)

-- an item has at least one byte, and a tail at most three; every byte gives at most two bytes of
-- UTF-16, in either byte order, and three of UTF-8; this includes a U+FFFD for the tail
abbrev pub ShownWithin : Type 0
ShownWithin = (bytes : List ℕ)
    → (length (split_items bytes) ≤ length bytes)
    × (length (split_tail bytes) ≤ 3)
    × (size (lossy_chars (split_items bytes)) ≤ 2 * length bytes)
    × (size (whole_lossy_chars (split_items bytes) (split_tail bytes)) ≤ 2 * length bytes)
    × (length (encode_utf8_all (whole_lossy_chars (split_items bytes) (split_tail bytes))) ≤ 3 * length bytes)

-- bytes are a tail, which more bytes complete to one character, exactly if they do not begin with a
-- character and std's error has no length
abbrev pub TailIsUndecided : Type 0
TailIsUndecided = (bytes : List ℕ) → (StartsWithNoChar bytes × (utf8_error_len bytes ≡ None)) ↔ IsTail bytes

-- the first `len` bytes are a maximal subpart of an ill-formed subsequence in the Standard's words:
-- the longest prefix that begins a character, or one byte (Unicode, section 3.9)
pub record IsMaximal (bytes : List ℕ) (len : ℕ) : Type 0 where
  pub some : 0 < len
  pub within : len ≤ length bytes
  pub begins : IsTail (take len bytes) ⊎ (len ≡ 1)
  pub longest : (n : ℕ) → len < n → n ≤ length bytes → ¬ (IsTail (take n bytes))

-- if bytes do not begin with a character, the length in std's error is the length of the maximal
-- subpart, unless all of the bytes are a tail
abbrev pub SubpartIsMaximal : Type 0
SubpartIsMaximal = (bytes : List ℕ) (len : ℕ) → StartsWithNoChar bytes
    → (utf8_error_len bytes ≡ Some len) ↔ (IsMaximal bytes len × (¬ (IsTail bytes)))

-- bytes that follow a tail complete it: all of it is in the first item
abbrev pub TailInFirst : Type 0
TailInFirst = (tail back : List ℕ) (item : Item) (items : List Item) (last : List ℕ) → IsTail tail → Split (tail ++ back) (item ∷ items) last
    → length tail ≤ length (item_bytes item)

-- the bytes after a tail give at most two bytes of UTF-16 each, in either byte order, and the tail
-- two more; this includes a U+FFFD for what is left at the end
abbrev pub ShownAfter : Type 0
ShownAfter = (tail back : List ℕ) → IsTail tail
    → (size (decided_text (tail ++ back)) ≤ 2 * length back + 2) × (size (lossy_text (tail ++ back)) ≤ 2 * length back + 2)
