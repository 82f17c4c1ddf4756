-- Tables of keys and values: an entry in each line, such as `key = value`, and comments.
use Rattle.std.specs.Prelude.{◌≡◌, ◌==◌, ◌&&◌, ℕ, List, Option, None, Some, filter, length, map, not, position}
use Rattle.std.specs.List.{after_first, before_first, list_any}
use Rattle.std.specs.Str.{drop_trailing_whitespace, skip_leading_whitespace}
use Rattle.std.specs.Str.Lines.{lines}
use Rattle.utf16_units.specs.declared.byte_order.Utf16Order.{Ghosts}
use Rattle.utf16string.specs.WStr.{wstr_text}
use Rattle.examples.specs.declared.table.Entry.{Entry}
use Rattle.examples.specs.declared.table.TableError.{TableError}
use Rattle.examples.specs.declared.table.TableError.TheVariants.{Line, Memory}

-- a text without the white space at its ends
abbrev pub trimmed : List ℕ → List ℕ
trimmed text = drop_trailing_whitespace (skip_leading_whitespace text)

-- what a line says: the text before its first '#', without the white space at its ends
abbrev pub said : List ℕ → List ℕ
said line = trimmed (before_first (λ c. c == 0x23) line)

-- what the lines of a table say
abbrev pub texts_of : List ℕ → List (List ℕ)
texts_of table = map said (lines table)

-- the key and the value of a text: what is before its first separator and after it
abbrev pub entry_in : ℕ → List ℕ → List ℕ × List ℕ
entry_in separator text = (trimmed (before_first (λ c. c == separator) text), trimmed (after_first (λ c. c == separator) text))

-- the entries of texts: one for each that is not blank
abbrev pub entries_of : ℕ → List (List ℕ) → List (List ℕ × List ℕ)
entries_of separator texts = map (entry_in separator) (filter (λ text. not (length text == 0)) texts)

-- the index of the first text that is not blank, but lacks the separator
abbrev pub first_bad : ℕ → List (List ℕ) → Option ℕ
first_bad separator texts = position (λ text. not (length text == 0) && not (list_any (λ c. c == separator) text)) texts

-- why the entries of texts were not read: a bad one, the first; or allocation failed, and none is
-- bad
abbrev pub IsTableError : ℕ → List (List ℕ) → TableError → Type 0
IsTableError separator texts (Line index) = first_bad separator texts ≡ Some index
IsTableError separator texts Memory = first_bad separator texts ≡ None

module _ {E : Type 0} {order : Ghosts E} where
  -- the texts of an entry's key and value
  abbrev pub entry_texts : Entry E order → List ℕ × List ℕ
  entry_texts entry = (wstr_text entry.key, wstr_text entry.value)
