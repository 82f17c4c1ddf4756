-- What a reader gets that resumes decoding with the fields of the error.
use Rattle.std.specs.Prelude.{ℕ, ◌+◌, Bool, List, [], ◌∷◌, ◌++◌, Option, None, Some, take, drop}
use Rattle.utf16_units.specs.Encoding.{Encodes}
use Rattle.utf16_units.specs.IllFormed.{IsIllFormed, IsUtf16ValidUpTo}

-- an encoding: which text some bytes encode, and whether bytes are valid up to an offset, where an
-- ill-formed sequence with this `error_len` follows
pub record Coding : Type 1 where
  pub IsTextOf : List ℕ → List ℕ → Type 0
  pub HasErrorAt : List ℕ → ℕ → Option ℕ → Type 0

-- the text that the reader gets of the bytes, and the bytes that it keeps until more come, as
-- Rust's documentation of `error_len` says to do
pub data RecipeOf (coding : Coding) : List ℕ → List ℕ → List ℕ → Type 0 where
  -- the bytes are well formed: their text, and nothing is kept
  valid : (bytes text : List ℕ) → coding.IsTextOf text bytes → RecipeOf coding bytes text []
  -- the error has a length: the text of the valid prefix, one U+FFFD, and decoding resumes after
  -- the ill-formed sequence
  resumed : (bytes front text kept : List ℕ) (valid_up_to len : ℕ) → coding.HasErrorAt bytes valid_up_to (Some len)
      → coding.IsTextOf front (take valid_up_to bytes) → RecipeOf coding (drop (valid_up_to + len) bytes) text kept
      → RecipeOf coding bytes (front ++ 0xFFFD ∷ text) kept
  -- the error has none: the text of the valid prefix, and what follows it is kept
  incomplete : (bytes front : List ℕ) (valid_up_to : ℕ) → coding.HasErrorAt bytes valid_up_to None
      → coding.IsTextOf front (take valid_up_to bytes) → RecipeOf coding bytes front (drop valid_up_to bytes)

-- the text that a reader gets of the chunks of a stream, one after another, and the bytes that are
-- kept at their end; `before` was kept before the first
pub data ResumesOf (coding : Coding) : List ℕ → List (List ℕ) → List ℕ → List ℕ → Type 0 where
  -- no chunk: no text, and what was kept is kept
  ended : (kept : List ℕ) → ResumesOf coding kept [] [] kept
  -- a chunk: the text of what was kept and the chunk; then what this keeps, and the other chunks
  fed : (before piece : List ℕ) (pieces : List (List ℕ)) (text kept more last : List ℕ) → RecipeOf coding (before ++ piece) text kept
      → ResumesOf coding kept pieces more last → ResumesOf coding before (piece ∷ pieces) (text ++ more) last

-- UTF-16 in a byte order
abbrev pub utf16_coding : Bool → Coding
utf16_coding big = record {
  IsTextOf = Encodes big;
  HasErrorAt = λ bytes n len. IsUtf16ValidUpTo big bytes n × IsIllFormed big bytes len;
}

abbrev pub Recipe : Bool → List ℕ → List ℕ → List ℕ → Type 0
Recipe big = RecipeOf (utf16_coding big)

abbrev pub Resumes : Bool → List ℕ → List (List ℕ) → List ℕ → List ℕ → Type 0
Resumes big = ResumesOf (utf16_coding big)
