-- The windows of ranges over a string, and the substrings of its text and of its bytes in a window.
-- Offsets are in bytes.
use Rattle.std.specs.Prelude.{ℕ, ◌+◌, ◌-◌, ◌^◌, ◌≤◌, Bool, List, [], Option, None, Some, drop, length, nat_lt, take, if◌then◌else◌}
use Rattle.utf16_units.specs.Boundary.{IsBoundary, text_between}
use Rattle.utf16_units.specs.Encoding.{text_of}

-- the window is one of the text: its start is at most its end, and both are boundaries
abbrev pub IsWindowOf : List ℕ → Option (ℕ × ℕ) → Type 0
IsWindowOf text None = ⊥
IsWindowOf text (Some window) = (window.0 ≤ window.1) × IsBoundary text window.0 × IsBoundary text window.1

-- the substring of the text in a window
abbrev pub window_text : List ℕ → Option (ℕ × ℕ) → List ℕ
window_text text None = []
window_text text (Some window) = text_between text window.0 window.1

-- the bytes from one offset up to another
abbrev pub bytes_between : List ℕ → ℕ → ℕ → List ℕ
bytes_between bytes i j = take (j - i) (drop i bytes)

-- the bytes in a window
abbrev pub window_bytes : List ℕ → Option (ℕ × ℕ) → List ℕ
window_bytes bytes None = []
window_bytes bytes (Some window) = bytes_between bytes window.0 window.1

-- the window from `start` up to and including `last`, if there is an offset after it
abbrev pub inclusive_window : ℕ → ℕ → Option (ℕ × ℕ)
inclusive_window start last = if nat_lt last (2 ^ 64 - 1) then Some (start, last + 1) else None

-- whether a range is a range of a string, from the string's bytes and the window that the range has
-- for their number
abbrev pub IsRangeOf : Bool → List ℕ → (ℕ → Option (ℕ × ℕ)) → Type 0
IsRangeOf big bytes window = IsWindowOf (text_of big bytes) (window (length bytes))

-- the substring of the text in the range
abbrev pub range_text : Bool → List ℕ → (ℕ → Option (ℕ × ℕ)) → List ℕ
range_text big bytes window = window_text (text_of big bytes) (window (length bytes))

-- the bytes in the range
abbrev pub range_bytes : List ℕ → (ℕ → Option (ℕ × ℕ)) → List ℕ
range_bytes bytes window = window_bytes bytes (window (length bytes))
