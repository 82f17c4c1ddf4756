-- Why a call stopped that converts from or to UTF-32. Lengths are in units of their side: bytes of
-- UTF-16, code units of UTF-32.
use Rattle.std.specs.Prelude.{◌≡◌, ℕ, Bool, List, Option, None, Some, slice_index}
use Rattle.std.specs.Char.{IsScalar}
use Rattle.utf16_transcode.specs.Decodes.{utf16_split}
use Rattle.utf16_transcode.specs.Transcoded.{DecodesAsTo}
use Rattle.utf16_fixed.specs.Utf32.{IsUtf32ValidUpTo, utf32_units}

-- UTF-16 of which the first bytes were decoded, and what is shown for them is at the start of the
-- buffer in UTF-32
abbrev pub DecodesToUtf32 : Bool → List ℕ → List ℕ → ℕ → ℕ → Type 0
DecodesToUtf32 big = DecodesAsTo (utf16_split big) utf32_units

-- the code unit after the longest valid prefix is not a scalar value; nothing is incomplete in
-- UTF-32
abbrev pub IsIllFormedUtf32 : List ℕ → ℕ → Option ℕ → Type 0
IsIllFormedUtf32 units valid_up_to None = ⊥
IsIllFormedUtf32 units valid_up_to (Some len) = (len ≡ 1) × IsUtf32ValidUpTo units valid_up_to

-- the same, stated about the rest of the code units
abbrev pub IsIllFormedUtf32At : List ℕ → Option ℕ → Type 0
IsIllFormedUtf32At rest None = ⊥
IsIllFormedUtf32At rest (Some len) = (len ≡ 1) × ¬ IsScalar (slice_index rest 0)
