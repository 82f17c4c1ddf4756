-- Edits of a text at a boundary.
use Rattle.std.specs.Prelude.{ℕ, ◌+◌, List, ◌++◌, Option, drop, slice_get}
use Rattle.utf16_units.specs.Boundary.{text_from, text_to}
use Rattle.utf16_units.specs.Encoding.{size}

-- another text inserted at i: the text before i, the other, and the text from i on
abbrev pub insert_at : List ℕ → ℕ → List ℕ → List ℕ
insert_at text i other = text_to text i ++ (other ++ text_from text i)

-- another text appended
abbrev pub push_text : List ℕ → List ℕ → List ℕ
push_text text other = text ++ other

-- the character at i, if there is one
abbrev pub char_at : List ℕ → ℕ → Option ℕ
char_at text i = slice_get (text_from text i) 0

-- the text without the character at i
abbrev pub remove_at : List ℕ → ℕ → List ℕ
remove_at text i = text_to text i ++ drop 1 (text_from text i)

-- the text split at i: what stays, and what is split off
abbrev pub split_front : List ℕ → ℕ → List ℕ
split_front text i = text_to text i

abbrev pub split_back : List ℕ → ℕ → List ℕ
split_back text i = text_from text i

-- as many bytes from i on overwritten by another text: the text before i, the other, and the text
-- after those bytes
abbrev pub overwrite_at : List ℕ → ℕ → List ℕ → List ℕ
overwrite_at text i other = text_to text i ++ (other ++ text_from text (i + size other))
