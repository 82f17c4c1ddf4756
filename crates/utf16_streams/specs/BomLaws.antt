-- The law of both filters: a statement about the definitions only, for all bytes.
use Rattle.std.specs.Prelude.{◌≡◌, ℕ, Bool, List, Some}
use Rattle.std.specs.Str.{IsUtf8}
use Rattle.utf16_units.specs.Encoding.{IsUtf16}
use Rattle.utf16_streams.specs.Filter.{whole_utf8}
use Rattle.utf16_streams.specs.Encoder.{whole_utf16}

-- well-formed UTF-8 that is written in UTF-16 and then in UTF-8 again is unchanged, and so is
-- well-formed UTF-16 that is written in UTF-8 and then in UTF-16 again, in either byte order
abbrev pub ThereAndBack : Type 0
ThereAndBack = (big : Bool) (bytes : List ℕ)
    → (IsUtf8 bytes → whole_utf8 (Some big) (whole_utf16 big bytes) ≡ bytes)
    × (IsUtf16 big bytes → whole_utf16 big (whole_utf8 (Some big) bytes) ≡ bytes)
