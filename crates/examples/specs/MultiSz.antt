-- Tables of texts, as in the registry's REG_MULTI_SZ: a NUL, U+0000, follows each text, and one
-- more NUL follows the last.
use Rattle.std.specs.Prelude.{◌≡◌, ◌≢◌, ℕ, List, [], All, slice_get, take, Some}
use Rattle.std.specs.List.{Contains}
use Rattle.utf16_units.specs.Delimited.{IsListBegun, Lacks, closed, listed}
use Rattle.examples.specs.declared.multi_sz.WriteError.{WriteError}
use Rattle.examples.specs.declared.multi_sz.WriteError.TheVariants.{Empty, HasNul, NoMemory}

-- a text has no NUL
abbrev pub HasNoNul : List ℕ → Type 0
HasNoNul text = Lacks 0 text

-- a text can be in a table: it is not empty, and it has no NUL
abbrev pub IsMultiSzEntry : List ℕ → Type 0
IsMultiSzEntry text = (text ≢ []) × HasNoNul text

-- the table of texts: a NUL after each, and one more at the end
abbrev pub multi_sz_of : List (List ℕ) → List ℕ
multi_sz_of texts = closed 0 texts

-- the texts that a reader finds in any text: it splits the text at each NUL, and stops at the first
-- empty part or at the end of the text
abbrev pub texts_in : List ℕ → List (List ℕ)
texts_in text = listed 0 text

-- the texts are those that a table begins with, in which the last NUL or the last two may be
-- missing: no text is empty or has a NUL, and with two NULs appended the whole begins with their
-- table
abbrev pub IsReading : List ℕ → List (List ℕ) → Type 0
IsReading text texts = IsListBegun 0 text texts

-- why texts cannot form a table: the text of that number is empty or has a NUL, and all texts
-- before it could be in a table; or all texts could, and allocation failed
abbrev pub IsWriteError : List (List ℕ) → WriteError → Type 0
IsWriteError texts (Empty i) = (slice_get texts i ≡ Some []) × All IsMultiSzEntry (take i texts)
IsWriteError texts (HasNul i) = (text : List ℕ) × (slice_get texts i ≡ Some text) × Contains text 0 × All IsMultiSzEntry (take i texts)
IsWriteError texts NoMemory = All IsMultiSzEntry texts
