-- What a reader gets that resumes decoding with the fields of std's `Utf8Error`.
use Rattle.std.specs.Prelude.{◌≡◌, ℕ, List, drop}
use Rattle.std.specs.Str.{IsUtf8, IsValidUpTo, chars}
use Rattle.std.specs.Str.Lossy.{utf8_error_len}
use Rattle.utf16_units.specs.Recipe.{Coding, RecipeOf, ResumesOf}

-- UTF-8
abbrev pub utf8_coding : Coding
utf8_coding = record {
  IsTextOf = λ text bytes. IsUtf8 bytes × (text ≡ chars bytes);
  HasErrorAt = λ bytes n len. IsValidUpTo bytes n × (utf8_error_len (drop n bytes) ≡ len);
}

abbrev pub Recipe : List ℕ → List ℕ → List ℕ → Type 0
Recipe = RecipeOf utf8_coding

abbrev pub Resumes : List ℕ → List (List ℕ) → List ℕ → List ℕ → Type 0
Resumes = ResumesOf utf8_coding
