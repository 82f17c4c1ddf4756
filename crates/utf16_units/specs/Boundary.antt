-- Character boundaries of a text, and the substrings between them. Offsets are in bytes of the
-- encoding, in either byte order.
use Rattle.std.specs.Prelude.{◌≡◌, ◌==◌, ℕ, ◌+◌, ◌-◌, ◌%◌, ◌<◌, ◌≤◌, Bool, ◌&&◌, ◌||◌, List, [], ◌∷◌, ◌++◌, nat_le, if◌then◌else◌}
use Rattle.utf16_units.specs.Encoding.{char_size, size}

-- i is a boundary: some prefix of the text has that size
pub record IsBoundary (text : List ℕ) (i : ℕ) : Type 0 where
  pub front : List ℕ
  pub back : List ℕ
  pub split : front ++ back ≡ text
  pub offset : size front ≡ i

-- the characters before an offset, those all of whose bytes are before it: at a boundary, the
-- prefix of that size
unfoldable pub text_to : List ℕ → ℕ → List ℕ
text_to [] i = []
text_to (c ∷ text) i = if nat_le (char_size c) i then c ∷ text_to text (i - char_size c) else []

-- the characters from an offset on: what is left without those before it
unfoldable pub text_from : List ℕ → ℕ → List ℕ
text_from [] i = []
text_from (c ∷ text) i = if nat_le (char_size c) i then text_from text (i - char_size c) else c ∷ text

-- the substring between two boundaries: the text without its prefix of size i, cut to the size j -
-- i
abbrev pub text_between : List ℕ → ℕ → ℕ → List ℕ
text_between text i j = text_to (text_from text i) (j - i)

-- what a text is at a boundary, which is even: the sizes of the substrings before and after it are
-- the offset and what remains, and concatenated they are the text
pub record CutAt (text : List ℕ) (i : ℕ) : Type 0 where
  pub even : i % 2 ≡ 0
  pub within : i ≤ size text
  pub joined : text_to text i ++ text_from text i ≡ text
  pub front_size : size (text_to text i) ≡ i
  pub back_size : i + size (text_from text i) ≡ size text
  pub front_between : text_between text 0 i ≡ text_to text i
  pub back_between : text_between text i (size text) ≡ text_from text i

-- a part occurs in a text at i: i and the end of the part are boundaries, and the part is the
-- substring between them
pub record OccursIn (text : List ℕ) (i : ℕ) (part : List ℕ) : Type 0 where
  pub start : IsBoundary text i
  pub end : IsBoundary text (i + size part)
  pub between : text_between text i (i + size part) ≡ part

-- a part occurs nowhere in a text before i
pub record IsAbsentBefore (text : List ℕ) (i : ℕ) (part : List ℕ) : Type 0 where
  pub absent : (j : ℕ) → j < i → ¬ (OccursIn text j part)

-- whether i is a boundary, computed: 0 is a boundary; after the first character, i is a boundary if
-- i less that character's size is a boundary of the rest
unfoldable pub is_boundary : List ℕ → ℕ → Bool
is_boundary [] i = i == 0
is_boundary (c ∷ text) i = (i == 0) || (nat_le (char_size c) i && is_boundary text (i - char_size c))
