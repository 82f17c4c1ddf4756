-- Edits of a text at a range. A window is the two byte offsets that a range has in a string.
use Rattle.std.specs.Prelude.{ℕ, Bool, List, [], ◌++◌, Option, None, Some, length}
use Rattle.utf16_units.specs.Boundary.{text_from, text_to}
use Rattle.utf16_units.specs.Encoding.{text_of}

-- the text with the substring in a window replaced by another text
abbrev pub window_replaced : List ℕ → Option (ℕ × ℕ) → List ℕ → List ℕ
window_replaced text None other = text
window_replaced text (Some window) other = text_to text window.0 ++ (other ++ text_from text window.1)

-- the text of a string with the substring in a range replaced, from the string's bytes and the
-- window that the range has for their number
abbrev pub range_replaced : Bool → List ℕ → (ℕ → Option (ℕ × ℕ)) → List ℕ → List ℕ
range_replaced big bytes window other = window_replaced (text_of big bytes) (window (length bytes)) other

-- that text without the substring in the range
abbrev pub range_removed : Bool → List ℕ → (ℕ → Option (ℕ × ℕ)) → List ℕ
range_removed big bytes window = range_replaced big bytes window []
