-- The laws of UTF-16 that users of the format rely on. Each is a statement about the definitions,
-- and about nothing else.
use Rattle.std.specs.Prelude.{◌≡◌, ◌≢◌, ◌↔◌, ◌⊎◌, ℕ, ◌+◌, ◌*◌, ◌%◌, ◌<◌, ◌≤◌, Bool, not, List, [], ◌∷◌, ◌++◌, None, Some, All, length, take, drop, encode_utf8_all, chars}
use Rattle.std.specs.Char.{IsScalar}
use Rattle.std.specs.List.{concat}
use Rattle.utf16_units.specs.Boundary.{CutAt, IsBoundary, OccursIn, text_between, text_from, text_to}
use Rattle.utf16_units.specs.Continued.{IsUtf16Prefix, IsDeadEnd}
use Rattle.utf16_units.specs.Edit.{char_at, insert_at, push_text, remove_at, split_back, split_front}
use Rattle.utf16_units.specs.Encoding.{Encodes, IsUtf16, encode, size, text_of}
use Rattle.utf16_units.specs.IllFormed.{IsIllFormed, IsUtf16ValidUpTo}
use Rattle.utf16_units.specs.TextOrder.{IsBefore}
use Rattle.utf16_units.specs.Recipe.{Recipe, Resumes}
use Rattle.utf16_units.specs.Split.{Item, Split, whole_lossy_chars, lossy_chars, split_items, split_tail}

-- two texts with equal encodings in one byte order are equal
abbrev pub UniqueText : Type 0
UniqueText = (big : Bool) (text other : List ℕ) → All IsScalar text → All IsScalar other → encode big text ≡ encode big other → text ≡ other

-- the encoding of two texts concatenated is the concatenation of their encodings
abbrev pub JoinedText : Type 0
JoinedText = (big : Bool) (front back : List ℕ) → encode big (front ++ back) ≡ encode big front ++ encode big back

-- the part occurs in the bytes at i
abbrev pub OccursAt : List ℕ → ℕ → List ℕ → Type 0
OccursAt bytes i part = take (length part) (drop i bytes) ≡ part

-- if the encoding of a text that is not empty occurs in a text's bytes at an even offset, both ends
-- of the occurrence are boundaries, and the characters between them are that text
abbrev pub FoundAligned : Type 0
FoundAligned = (big : Bool) (text found : List ℕ) (i : ℕ) → All IsScalar text → All IsScalar found → found ≢ [] → i % 2 ≡ 0
    → OccursAt (encode big text) i (encode big found)
    → IsBoundary text i × IsBoundary text (i + size found) × (text_between text i (i + size found) ≡ found)

-- each two bytes swapped; a last odd byte stays
unfoldable pub swap_bytes : List ℕ → List ℕ
swap_bytes [] = []
swap_bytes (last ∷ []) = last ∷ []
swap_bytes (first ∷ second ∷ bytes) = second ∷ first ∷ swap_bytes bytes

-- the encodings of a text in the two byte orders differ by swapping the two bytes of each unit, and
-- by nothing else
abbrev pub SwappedOrders : Type 0
SwappedOrders = (big : Bool) (text : List ℕ) → encode (not big) text ≡ swap_bytes (encode big text)

-- a character inserted at a boundary is the character there, and removing it gives the original
-- text
abbrev pub InsertThenRemove : Type 0
InsertThenRemove = (text : List ℕ) (i c : ℕ) → IsBoundary text i
    → (char_at (insert_at text i (c ∷ [])) i ≡ Some c) × (remove_at (insert_at text i (c ∷ [])) i ≡ text)

-- a text split at a boundary has a prefix of that size, and appending the rest gives the original
-- text
abbrev pub SplitThenPush : Type 0
SplitThenPush = (text : List ℕ) (i : ℕ) → IsBoundary text i
    → (size (split_front text i) ≡ i) × (push_text (split_front text i) (split_back text i) ≡ text)

-- the characters decoded from a text's UTF-8 are the text
abbrev pub Utf8Back : Type 0
Utf8Back = (text : List ℕ) → All IsScalar text → chars (encode_utf8_all text) ≡ text

-- bytes with an error of length 2 are not a prefix of any text
abbrev pub TwoNeverContinues : Type 0
TwoNeverContinues = (big : Bool) (bytes : List ℕ) → IsIllFormed big bytes (Some 2) → ¬ (IsUtf16Prefix big bytes)

-- bytes with an error of no length are a prefix of a text exactly if what follows their longest
-- valid prefix is not a dead end; in little endian they always are
abbrev pub NoneContinues : Type 0
NoneContinues = (big : Bool) (bytes : List ℕ) (n : ℕ) → All (λ b. b < 256) bytes → IsIllFormed big bytes None → IsUtf16ValidUpTo big bytes n
    → (IsUtf16Prefix big bytes ↔ ¬ (IsDeadEnd big (drop n bytes)))

-- any bytes have a split (decomposition), the computed one
abbrev pub SplitExists : Type 0
SplitExists = (big : Bool) (bytes : List ℕ) → All (λ b. b < 256) bytes → Split big bytes (split_items big bytes) (split_tail big bytes)

-- bytes do not have two splits
abbrev pub SplitUnique : Type 0
SplitUnique = (big : Bool) (bytes : List ℕ) (items others : List Item) (tail other : List ℕ)
    → Split big bytes items tail → Split big bytes others other → (items ≡ others) × (tail ≡ other)

-- with more bytes appended, the items stay, and the items of the tail and these bytes follow them
abbrev pub SplitExtends : Type 0
SplitExtends = (big : Bool) (front back : List ℕ)
    → (split_items big (front ++ back) ≡ split_items big front ++ split_items big (split_tail big front ++ back))
    × (split_tail big (front ++ back) ≡ split_tail big (split_tail big front ++ back))

-- a reader that resumes with the fields of the error gets the items' text, with U+FFFD for unpaired
-- surrogates, and what it keeps is the tail
abbrev pub RecipeIsSplit : Type 0
RecipeIsSplit = (big : Bool) (bytes text kept : List ℕ) → All (λ b. b < 256) bytes
    → (Recipe big bytes text kept ↔ ((text ≡ lossy_chars (split_items big bytes)) × (kept ≡ split_tail big bytes)))

-- a reader that resumes in this way over the chunks of a stream, however it is cut, gets the items'
-- text of the joined chunks, with U+FFFD for unpaired surrogates, and what it keeps is the tail
abbrev pub ResumesIsSplit : Type 0
ResumesIsSplit = (big : Bool) (pieces : List (List ℕ)) (text kept : List ℕ) → All (λ b. b < 256) (concat pieces)
    → (Resumes big [] pieces text kept ↔ ((text ≡ lossy_chars (split_items big (concat pieces))) × (kept ≡ split_tail big (concat pieces))))

-- the lossy text of a text's encoding is that text, and the tail is empty
abbrev pub TextIsShown : Type 0
TextIsShown = (big : Bool) (text bytes : List ℕ) → Encodes big text bytes → (lossy_chars (split_items big bytes) ≡ text) × (split_tail big bytes ≡ [])

-- with more bytes appended, the decoded items stay
abbrev pub ItemsStay : Type 0
ItemsStay = (big : Bool) (front back : List ℕ) → take (length (split_items big front)) (split_items big (front ++ back)) ≡ split_items big front

-- the lossy text of a stream cut in two is the text of the first chunk, followed by the text of its
-- tail and the second chunk
abbrev pub CutAnywhere : Type 0
CutAnywhere = (big : Bool) (front back : List ℕ)
    → lossy_chars (split_items big (front ++ back)) ≡ lossy_chars (split_items big front) ++ lossy_chars (split_items big (split_tail big front ++ back))

-- an item has at least two bytes, and every two bytes give at most three of UTF-8; a tail adds at
-- most three
abbrev pub ShownWithin : Type 0
ShownWithin = (big : Bool) (bytes : List ℕ) → All (λ b. b < 256) bytes
    → (2 * length (split_items big bytes) ≤ length bytes)
    × (2 * length (encode_utf8_all (lossy_chars (split_items big bytes))) ≤ 3 * length bytes)
    × (2 * length (encode_utf8_all (whole_lossy_chars (split_items big bytes) (split_tail big bytes))) ≤ 3 * length bytes + 3)

-- exactly one of three holds
pub record IsOneOf (P Q R : Type 0) : Type 0 where
  pub some : P ⊎ (Q ⊎ R)
  pub first_second : P → ¬ Q
  pub first_third : P → ¬ R
  pub second_third : Q → ¬ R

-- of two texts exactly one holds: the first is before the second, they are equal, or the second is
-- before the first
abbrev pub BeforeTotal : Type 0
BeforeTotal = (text other : List ℕ) → IsOneOf (IsBefore text other) (text ≡ other) (IsBefore other text)

-- a text that is before a second is before all texts that the second is before
abbrev pub BeforeFollows : Type 0
BeforeFollows = (text other third : List ℕ) → IsBefore text other → IsBefore other third → IsBefore text third

-- the start and the end of a text are boundaries, the substring between them is the text, and each
-- boundary splits it
pub record IsCut (text : List ℕ) : Type 0 where
  pub start : IsBoundary text 0
  pub end : IsBoundary text (size text)
  pub whole : text_between text 0 (size text) ≡ text
  pub cuts : (i : ℕ) → IsBoundary text i → CutAt text i

-- each text splits in this way at its boundaries
abbrev pub BoundaryCuts : Type 0
BoundaryCuts = (text : List ℕ) → IsCut text

-- with more appended to a text, its boundaries and the substrings between them stay, and what was
-- appended is the substring after them
pub record StaysBefore (text more : List ℕ) : Type 0 where
  pub boundary : (i : ℕ) → IsBoundary text i → IsBoundary (text ++ more) i
  pub part : (i j : ℕ) → i ≤ j → IsBoundary text i → IsBoundary text j → text_between (text ++ more) i j ≡ text_between text i j
  pub front : text_to (text ++ more) (size text) ≡ text
  pub back : text_from (text ++ more) (size text) ≡ more
  pub behind : text_between (text ++ more) (size text) (size text + size more) ≡ more

-- this holds for any two texts
abbrev pub MoreAfter : Type 0
MoreAfter = (text more : List ℕ) → StaysBefore text more

-- a part that is not empty occurs in a text exactly at the even offsets at which its bytes occur in
-- the bytes of the text
abbrev pub FoundExactly : Type 0
FoundExactly = (big : Bool) (text part bytes part_bytes : List ℕ) (i : ℕ) → Encodes big text bytes → Encodes big part part_bytes → part ≢ []
    → (((i % 2 ≡ 0) × OccursAt bytes i part_bytes) ↔ OccursIn text i part)

-- bytes that encode a text are well formed, decode to that text, and are as long as its size
pub record IsSpelled (big : Bool) (text bytes : List ℕ) : Type 0 where
  pub well_formed : IsUtf16 big bytes
  pub spells : text_of big bytes ≡ text
  pub long : length bytes ≡ size text

-- this holds for the bytes of any text
abbrev pub EncodedText : Type 0
EncodedText = (big : Bool) (text bytes : List ℕ) → Encodes big text bytes → IsSpelled big text bytes
