-- Why a conversion to Latin-1 stopped. Latin-1 is ISO 8859-1: its bytes are the numbers of its
-- characters, U+0000 to U+00FF (Unicode, blocks C0 Controls and Basic Latin, and C1 Controls and
-- Latin-1 Supplement).
use Rattle.std.specs.Prelude.{◌≡◌, ℕ, ◌<◌, ◌≤◌, Bool, List, [], ◌++◌, None, Some, length, drop}
use Rattle.std.specs.Char.{IsScalar}
use Rattle.utf16_units.specs.Encoding.{char_bytes}
use Rattle.utf16_units.specs.IllFormed.{IsIllFormedAt}
use Rattle.utf16_transcode.specs.Stops.{IsIllFormedUtf16}
use Rattle.utf16_fixed.specs.declared.latin1_stop.Latin1Stop.{Latin1Stop}
use Rattle.utf16_fixed.specs.declared.latin1_stop.Latin1Stop.TheVariants.{Done, IllFormed, Incomplete, NoSpace, NotLatin1}

-- Latin-1 has the character
abbrev pub IsLatin1 : ℕ → Type 0
IsLatin1 c = c < 0x100

-- the character is above all that Latin-1 has
abbrev pub IsAboveLatin1 : ℕ → Type 0
IsAboveLatin1 c = 0x100 ≤ c

-- the bytes begin with a character of this kind
pub record BeginsWithA (Kind : ℕ → Type 0) (big : Bool) (bytes : List ℕ) : Type 0 where
  pub char : ℕ
  pub more : List ℕ
  pub scalar : IsScalar char
  pub begins : bytes ≡ char_bytes big char ++ more
  pub kind : Kind char

-- all was read; or an ill-formed sequence follows the longest valid prefix; or the buffer is full
-- and a character that Latin-1 has follows; or one that it does not have follows. `left` is the
-- number of bytes of the buffer after the written ones
abbrev pub StopsLatin1 : Bool → List ℕ → ℕ → ℕ → Latin1Stop → Type 0
StopsLatin1 big raw read left Done = read ≡ length raw
StopsLatin1 big raw read left (IllFormed len) = IsIllFormedUtf16 big raw read (Some len)
StopsLatin1 big raw read left Incomplete = IsIllFormedUtf16 big raw read None
StopsLatin1 big raw read left NoSpace = (left ≡ 0) × BeginsWithA IsLatin1 big (drop read raw)
StopsLatin1 big raw read left NotLatin1 = BeginsWithA IsAboveLatin1 big (drop read raw)

-- the same reasons, stated about the rest of the input
abbrev pub StopsLatin1Here : Bool → List ℕ → Latin1Stop → Type 0
StopsLatin1Here big rest Done = rest ≡ []
StopsLatin1Here big rest (IllFormed len) = (0 < length rest) × IsIllFormedAt big rest (Some len)
StopsLatin1Here big rest Incomplete = IsIllFormedAt big rest None
StopsLatin1Here big rest NoSpace = BeginsWithA IsLatin1 big rest
StopsLatin1Here big rest NotLatin1 = BeginsWithA IsAboveLatin1 big rest
