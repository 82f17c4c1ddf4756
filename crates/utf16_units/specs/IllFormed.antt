-- The longest valid prefix of bytes, and the ill-formed sequence after it.
use Rattle.std.specs.Prelude.{◌≡◌, ◌≢◌, ◌++◌, ℕ, zero, suc, ◌<◌, ◌≤◌, Bool, true, false, ◌&&◌, List, [], ◌∷◌, Option, None, Some, length, take, drop, nat_le, if◌then◌else◌}
use Rattle.utf16_units.specs.Unit.{IsLeading, unit_of}
use Rattle.std.specs.Char.{IsScalar}
use Rattle.std.specs.Option.{ForSome}
use Rattle.utf16_units.specs.Encoding.{char_bytes, IsUtf16, is_utf16}

-- n is the length of the longest valid prefix: the first n bytes are well formed, and no longer
-- prefix is
pub record IsUtf16ValidUpTo (big : Bool) (bytes : List ℕ) (n : ℕ) : Type 0 where
  pub within : n ≤ length bytes
  pub valid : IsUtf16 big (take n bytes)
  pub longest : (m : ℕ) → m ≤ length bytes → IsUtf16 big (take m bytes) → m ≤ n

-- a truncated character: one byte is left, or a leading surrogate with at most one byte after it
abbrev pub IsIncomplete : Bool → List ℕ → Type 0
IsIncomplete big [] = ⊥
IsIncomplete big (last ∷ []) = Unit {0}
IsIncomplete big (first ∷ second ∷ after) = IsLeading (unit_of big first second) × (length after ≤ 1)

-- the length of the ill-formed sequence at the start of the rest, like Rust's `error_len`: `None`
-- for a truncated character, else one unit
abbrev pub IsErrorLen : Bool → List ℕ → Option ℕ → Type 0
IsErrorLen big rest None = IsIncomplete big rest
IsErrorLen big rest (Some n) = (n ≡ 2) × ¬ (IsIncomplete big rest)

-- the error of ill-formed bytes: what follows their longest valid prefix
pub record IsIllFormed (big : Bool) (bytes : List ℕ) (error_len : Option ℕ) : Type 0 where
  pub ill_formed : ¬ (IsUtf16 big bytes)
  pub valid_up_to : ℕ
  pub front : IsUtf16ValidUpTo big bytes valid_up_to
  pub at_front : IsErrorLen big (drop valid_up_to bytes) error_len

-- the longest valid prefix of at most n bytes, computed
unfoldable pub valid_len_within : Bool → List ℕ → ℕ → ℕ
valid_len_within big bytes zero = zero
valid_len_within big bytes (suc n) = if is_utf16 big (take (suc n) bytes) then suc n else valid_len_within big bytes n

-- the longest valid prefix, computed
unfoldable pub valid_len : Bool → List ℕ → ℕ
valid_len big bytes = valid_len_within big bytes (length bytes)

-- whether the bytes are a truncated character, computed
unfoldable pub is_incomplete : Bool → List ℕ → Bool
is_incomplete big [] = false
is_incomplete big (last ∷ []) = true
is_incomplete big (first ∷ second ∷ after) =
    (nat_le 0xD800 (unit_of big first second) && nat_le (unit_of big first second) 0xDBFF) && nat_le (length after) 1

-- the error length of ill-formed bytes, computed
unfoldable pub ill_formed_len : Bool → List ℕ → Option ℕ
ill_formed_len big bytes = if is_incomplete big (drop (valid_len big bytes) bytes) then None else Some 2

-- the first n bytes are the bytes of one character
pub record BeginsWithChar (big : Bool) (bytes : List ℕ) (n : ℕ) : Type 0 where
  pub char : ℕ
  pub scalar : IsScalar char
  pub within : n ≤ length bytes
  pub spelled : take n bytes ≡ char_bytes big char

-- no prefix of the bytes is one character
abbrev pub BeginsWithNoChar : Bool → List ℕ → Type 0
BeginsWithNoChar big bytes = (c : ℕ) (rest : List ℕ) → IsScalar c → bytes ≢ char_bytes big c ++ rest

-- the first n bytes are well formed, and no character begins after them
pub record IsTextUpTo (big : Bool) (bytes : List ℕ) (n : ℕ) : Type 0 where
  pub within : n ≤ length bytes
  pub text : IsUtf16 big (take n bytes)
  pub stops : n < length bytes → BeginsWithNoChar big (drop n bytes)

-- no character begins here, and the error length says whether more bytes could make one
abbrev pub IsIllFormedAt : Bool → List ℕ → Option ℕ → Type 0
IsIllFormedAt big rest error_len = BeginsWithNoChar big rest × IsErrorLen big rest error_len × ForSome error_len (λ n. n ≡ 2)
