-- Why a call stopped: `Stops` for a strict call, `StopsLossy` for one that replaces what is
-- ill-formed, `StopsPartial` for one that also leaves what more bytes could change, and
-- `StopsFeeding` (in `Stream`) for a chunk of a stream. A character has the bytes `from` in the
-- input and `into` in the buffer, of which `left` bytes come after the written ones.
use Rattle.std.specs.Prelude.{◌≡◌, ◌≢◌, ℕ, ◌<◌, ◌≤◌, Bool, List, [], ◌∷◌, ◌++◌, Option, None, Some, length, take, drop}
use Rattle.std.specs.Char.{IsScalar}
use Rattle.utf16_units.specs.IllFormed.{IsIllFormed, IsUtf16ValidUpTo}
use Rattle.utf16_transcode.specs.StreamSplit.{StreamSplit, decided}
use Rattle.utf16_transcode.specs.declared.progress.Stop.{Stop}
use Rattle.utf16_transcode.specs.declared.progress.Stop.TheVariants.{Incomplete, Done, IllFormed, NoSpace}

-- the bytes begin with a character whose bytes in the other encoding do not fit
pub record NextDoesNotFit (from into : ℕ → List ℕ) (rest : List ℕ) (left : ℕ) : Type 0 where
  pub char : ℕ
  pub more : List ℕ
  pub scalar : IsScalar char
  pub begins : rest ≡ from char ++ more
  pub too_long : left < length (into char)

-- all was read; or the longest valid prefix was, and the result gives what follows it; or the next
-- character does not fit
module _ (from into : ℕ → List ℕ) (IsIllFormedOf : List ℕ → ℕ → Option ℕ → Type 0) where
  abbrev pub Stops : List ℕ → ℕ → ℕ → Stop → Type 0
  Stops input read left Done = read ≡ length input
  Stops input read left (IllFormed len) = IsIllFormedOf input read (Some len)
  Stops input read left Incomplete = IsIllFormedOf input read None
  Stops input read left NoSpace = NextDoesNotFit from into (drop read input) left

-- the same reasons, stated about the rest of the input
module _ (from into : ℕ → List ℕ) (IsIllFormedHere : List ℕ → Option ℕ → Type 0) where
  abbrev pub StopsHere : List ℕ → ℕ → Stop → Type 0
  StopsHere rest left Done = ⊥
  StopsHere rest left (IllFormed len) = IsIllFormedHere rest (Some len)
  StopsHere rest left Incomplete = IsIllFormedHere rest None
  StopsHere rest left NoSpace = NextDoesNotFit from into rest left

-- the longest well-formed prefix of bytes that are not UTF-16, and Rust's `error_len` of what
-- follows it
abbrev pub IsIllFormedUtf16 : Bool → List ℕ → ℕ → Option ℕ → Type 0
IsIllFormedUtf16 big raw valid_up_to error_len = IsUtf16ValidUpTo big raw valid_up_to × IsIllFormed big raw error_len

-- the text begins with a character that does not fit
pub record TextDoesNotFit (into : ℕ → List ℕ) (text : List ℕ) (left : ℕ) : Type 0 where
  pub char : ℕ
  pub more : List ℕ
  pub begins : text ≡ char ∷ more
  pub too_long : left < length (into char)

-- no bytes are left, or more bytes could change what is left, or the next character does not fit
abbrev pub StopsPartial : StreamSplit → (ℕ → List ℕ) → List ℕ → ℕ → Stop → Type 0
StopsPartial parts into rest left Done = rest ≡ []
StopsPartial parts into rest left (IllFormed len) = ⊥
StopsPartial parts into rest left Incomplete = (rest ≢ []) × (parts.tail rest ≡ rest)
StopsPartial parts into rest left NoSpace = TextDoesNotFit into (decided parts rest) left

-- all was read, or the next character of the whole text does not fit
abbrev pub StopsLossy : (List ℕ → List ℕ) → (ℕ → List ℕ) → List ℕ → ℕ → Stop → Type 0
StopsLossy text into rest left Done = rest ≡ []
StopsLossy text into rest left (IllFormed len) = ⊥
StopsLossy text into rest left Incomplete = ⊥
StopsLossy text into rest left NoSpace = TextDoesNotFit into (text rest) left

-- the first n bytes are the bytes of a character
pub record BeginsWith (from : ℕ → List ℕ) (bytes : List ℕ) (char n : ℕ) : Type 0 where
  pub scalar : IsScalar char
  pub within : n ≤ length bytes
  pub some : 0 < n
  pub spelled : take n bytes ≡ from char
