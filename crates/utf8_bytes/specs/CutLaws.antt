-- The laws of boundaries.
use Rattle.std.specs.Prelude.{◌≡◌, ◌↔◌, ℕ, List, ◌++◌, take, drop}
use Rattle.std.specs.List.{flat_map}
use Rattle.std.specs.Str.{IsCharBoundary, IsUtf8}
use Rattle.utf8_bytes.specs.Split.{lossy_text}
use Rattle.utf16_units.specs.Cuts.{parts}
use Rattle.utf8_bytes.specs.Boundary.{AreCuts, IsCut}

-- the text of bytes, with U+FFFD, is the text of the bytes before a boundary, followed by the text
-- of the bytes after it
abbrev pub CutText : Type 0
CutText = (bytes : List ℕ) (at : ℕ) → IsCut bytes at → lossy_text bytes ≡ lossy_text (take at bytes) ++ lossy_text (drop at bytes)

-- it is the texts of the parts between ascending boundaries, one after another
abbrev pub CutsText : Type 0
CutsText = (bytes ends : List ℕ) → AreCuts bytes ends → lossy_text bytes ≡ flat_map lossy_text (parts bytes ends)

-- the boundaries of well-formed UTF-8 are the boundaries of std's `str`
abbrev pub TextBoundaries : Type 0
TextBoundaries = (bytes : List ℕ) (at : ℕ) → IsUtf8 bytes → IsCut bytes at ↔ IsCharBoundary bytes at
