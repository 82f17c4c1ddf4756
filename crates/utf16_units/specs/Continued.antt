-- Which bytes are the prefix of a text, and which can never be.
use Rattle.std.specs.Prelude.{ℕ, ◌≤◌, Bool, true, List, [], ◌∷◌, ◌++◌}
use Rattle.utf16_units.specs.Unit.{IsLeading, unit_of}
use Rattle.utf16_units.specs.Encoding.{IsUtf16}

-- bytes that some further bytes, or none, make well formed
pub record IsUtf16Prefix (big : Bool) (bytes : List ℕ) : Type 0 where
  pub more : List ℕ
  pub text : IsUtf16 big (bytes ++ more)

-- a byte that is the high byte of trailing surrogates
abbrev pub IsTrailingHigh : ℕ → Type 0
IsTrailingHigh byte = (0xDC ≤ byte) × (byte ≤ 0xDF)

-- the rest of a truncated character that no bytes can complete. There is one in big endian only,
-- where the high byte comes first: the high byte of a trailing surrogate, or a whole leading
-- surrogate and a byte that is not such a high byte
abbrev pub IsDeadEnd : Bool → List ℕ → Type 0
IsDeadEnd true (last ∷ []) = IsTrailingHigh last
IsDeadEnd true (first ∷ second ∷ last ∷ []) = IsLeading (unit_of true first second) × ¬ (IsTrailingHigh last)
IsDeadEnd big rest = ⊥
