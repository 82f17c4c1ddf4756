-- The white space of ASCII, and the words between it.
use Rattle.std.specs.Prelude.{◌≡◌, ℕ, Bool, List}
use Rattle.std.specs.Char.{is_ascii_whitespace}
use Rattle.utf16_str.specs.Substrings.{words_by}

-- the answer of `char::is_ascii_whitespace`, which is true of U+0009, U+000A, U+000C, U+000D and
-- U+0020
abbrev pub SaysIsAsciiWhitespace : ℕ → Bool → Type 0
SaysIsAsciiWhitespace c b = b ≡ is_ascii_whitespace c

-- the words of a text, as in the documentation of `str::split_ascii_whitespace`: white space of
-- ASCII is between them
abbrev pub ascii_words : List ℕ → List (List ℕ)
ascii_words text = words_by is_ascii_whitespace text
