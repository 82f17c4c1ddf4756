-- UTF-8 to UTF-16: what is written for any bytes, and why a call stopped.
use Rattle.std.specs.Prelude.{◌≡◌, ℕ, Bool, List, Option, drop}
use Rattle.std.specs.Str.{IsUtf8, IsValidUpTo, StartsWithNoChar, chars}
use Rattle.std.specs.Str.Lossy.{utf8_error_len, utf8_lossy}
use Rattle.utf16_units.specs.Encoding.{encode}

-- bytes of UTF-8 and the UTF-16 of the same text
abbrev pub TranscodesToUtf16 : Bool → List ℕ → List ℕ → Type 0
TranscodesToUtf16 big text raw = IsUtf8 text × (raw ≡ encode big (chars text))

-- the text of UTF-8, as `String::from_utf8_lossy` returns it (Unicode, section 3.9: U+FFFD
-- substitution of maximal subparts)
abbrev pub text_of_utf8 : List ℕ → List ℕ
text_of_utf8 bytes = chars (utf8_lossy bytes)

-- what bytes that begin with no character begin with, and Rust's `error_len` for it
abbrev pub IsIllFormedUtf8At : List ℕ → Option ℕ → Type 0
IsIllFormedUtf8At rest error_len = StartsWithNoChar rest × (error_len ≡ utf8_error_len rest)

-- the longest valid prefix of bytes that are not UTF-8, and Rust's `error_len` for what follows it
abbrev pub IsIllFormedUtf8 : List ℕ → ℕ → Option ℕ → Type 0
IsIllFormedUtf8 bytes valid_up_to error_len = IsValidUpTo bytes valid_up_to × (error_len ≡ utf8_error_len (drop valid_up_to bytes))
