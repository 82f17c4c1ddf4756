-- The laws of boundaries, for all bytes.
use Rattle.std.specs.Prelude.{◌≡◌, ℕ, Bool, List, ◌++◌, All, nat_lt, take, drop}
use Rattle.std.specs.List.{flat_map}
use Rattle.std.specs.List.Sorted.{IsSortedBy}
use Rattle.utf16_units.specs.Split.{lossy_text}
use Rattle.utf16_bytes.specs.Boundary.{IsCut}
use Rattle.utf16_units.specs.Cuts.{parts}

-- the text of bytes, with U+FFFD, is the text of the bytes before a boundary, followed by the text
-- of the bytes after it
abbrev pub CutText : Type 0
CutText = (big : Bool) (bytes : List ℕ) (at : ℕ) → IsCut big bytes at
    → lossy_text big bytes ≡ lossy_text big (take at bytes) ++ lossy_text big (drop at bytes)

-- and at ascending boundaries it is the texts of the parts, one after another
abbrev pub CutsText : Type 0
CutsText = (big : Bool) (bytes offsets : List ℕ)
    → IsSortedBy nat_lt offsets → All (IsCut big bytes) offsets
    → lossy_text big bytes ≡ flat_map (lossy_text big) (parts bytes offsets)
