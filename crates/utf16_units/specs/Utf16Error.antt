-- What a clause sees of a `Utf16Error`.
use Rattle.std.specs.Prelude.{ℕ, Bool, List, ◌++◌, Option, None, Some, codes, decimal}
use Rattle.utf16_units.specs.declared.error.Detail.{Detail}
use Rattle.utf16_units.specs.declared.error.Utf16Error.{Utf16Error}
use Rattle.utf16_units.specs.IllFormed.{IsIllFormed, IsUtf16ValidUpTo}

-- `e.valid_up_to()`
abbrev pub valid_up_to : Utf16Error → ℕ
valid_up_to e = e.valid_up_to

-- `e.error_len()`
abbrev pub error_len : Utf16Error → Option ℕ
error_len e = e.error_len

-- the error of ill-formed bytes: it gives the longest valid prefix and what follows it
pub record IsErrorOf (big : Bool) (bytes : List ℕ) (e : Utf16Error) : Type 0 where
  pub front : IsUtf16ValidUpTo big bytes (valid_up_to e)
  pub fault : IsIllFormed big bytes (error_len e)

-- `e.detail()`
abbrev pub detail : Utf16Error → Detail
detail e = record { error = e }

-- what a detail says of the ill-formed sequence at an offset. One with a length is an unpaired
-- surrogate, which has two bytes
abbrev pub ill_formed_text : ℕ → Option ℕ → List ℕ
ill_formed_text at (Some len) = codes "unpaired surrogate of 2 bytes at byte " ++ decimal at
ill_formed_text at None = codes "incomplete character at byte " ++ decimal at

abbrev pub detail_text : Detail → List ℕ
detail_text it = ill_formed_text (valid_up_to it.error) (error_len it.error)
