-- ASCII letters in lower or upper case.
use Rattle.std.specs.Prelude.{ℕ}
use Rattle.std.specs.Char.{to_ascii_lowercase, to_ascii_uppercase}
use Rattle.utf16string.specs.declared.wstring.ascii.AsciiCase.{AsciiCase}
use Rattle.utf16string.specs.declared.wstring.ascii.AsciiCase.TheVariants.{Lower, Upper}

-- a character, in that case if it is an ASCII letter
abbrev pub in_case : AsciiCase → ℕ → ℕ
in_case Lower c = to_ascii_lowercase c
in_case Upper c = to_ascii_uppercase c
