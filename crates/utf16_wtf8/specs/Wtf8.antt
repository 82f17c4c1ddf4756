-- WTF-8, which holds any code units of UTF-16: UTF-8 that may also have unpaired surrogates ("The
-- WTF-8 encoding" by Simon Sapin).
use Rattle.std.specs.Prelude.{ℕ, ◌<◌, ◌≡◌, Bool, false, ◌&&◌, List, [], ◌∷◌, All, if◌then◌else◌}
use Rattle.std.specs.Char.{encode_utf8}
use Rattle.std.specs.Char.Utf16.{is_high_surrogate, is_low_surrogate, surrogate_pair_char}
use Rattle.std.specs.List.{flat_map}
use Rattle.utf16_units.specs.Unit.{IsLeading, IsTrailing}

-- a code unit of UTF-16 (Unicode, section 3.9: code unit)
abbrev pub IsUnit : ℕ → Type 0
IsUnit unit = unit < 0x1_0000

-- a code point, which may be a surrogate (Unicode, section 3.4: code point)
abbrev pub IsCodePoint : ℕ → Type 0
IsCodePoint point = point < 0x11_0000

-- the code points of any code units: the character of each surrogate pair, and each other unit
-- itself (The WTF-8 encoding: potentially ill-formed UTF-16)
unfoldable pub code_points : List ℕ → List ℕ
code_points [] = []
code_points (unit ∷ []) = unit ∷ []
code_points (unit ∷ next ∷ units) =
    if is_high_surrogate unit && is_low_surrogate next then surrogate_pair_char unit next ∷ code_points units else unit ∷ code_points (next ∷ units)

-- the bytes of a code point: UTF-8 in which surrogates are not excluded, so that each has three
-- bytes, from ED A0 80 to ED BF BF (The WTF-8 encoding: generalized UTF-8)
abbrev pub generalized_utf8 : ℕ → List ℕ
generalized_utf8 point = encode_utf8 point

-- no leading surrogate is directly followed by a trailing one (The WTF-8 encoding: surrogate pair
-- byte sequence)
abbrev pub HasNoPair : List ℕ → Type 0
HasNoPair [] = Unit {0}
HasNoPair (point ∷ []) = Unit {0}
HasNoPair (point ∷ next ∷ points) = ¬ (IsLeading point × IsTrailing next) × HasNoPair (next ∷ points)

-- whether the last code point is a leading surrogate
abbrev pub ends_leading : List ℕ → Bool
ends_leading [] = false
ends_leading (point ∷ []) = is_high_surrogate point
ends_leading (point ∷ next ∷ points) = ends_leading (next ∷ points)

-- the bytes are the WTF-8 of the code points
pub record SpellsWtf8 (points bytes : List ℕ) : Type 0 where
  pub each_point : All IsCodePoint points
  pub no_pair : HasNoPair points
  pub spelled : flat_map generalized_utf8 points ≡ bytes

-- the bytes are WTF-8: some code points spell them
pub record IsWtf8 (bytes : List ℕ) : Type 0 where
  pub points : List ℕ
  pub spells : SpellsWtf8 points bytes

-- the WTF-8 of any code units
abbrev pub wtf8_of_units : List ℕ → List ℕ
wtf8_of_units units = flat_map generalized_utf8 (code_points units)
