-- The laws of WTF-8, for all code units and all code points. Each is a statement about the
-- definitions, and about nothing else.
use Rattle.std.specs.Prelude.{◌≡◌, ◌≢◌, ◌↔◌, ◌⊎◌, ℕ, ◌<◌, ◌≤◌, Bool, true, List, [], ◌++◌, None, Some, All, length, map, take}
use Rattle.std.specs.Char.{IsScalar}
use Rattle.std.specs.Char.Escape.{encode_utf16}
use Rattle.std.specs.List.{flat_map}
use Rattle.std.specs.Str.{IsUtf8}
use Rattle.utf16_units.specs.Split.{split_items, split_tail}
use Rattle.utf16_units.specs.Unit.{IsTrailing}
use Rattle.utf16_wtf8.specs.FromWtf8.{EndsLeading, TranscodesFromWtf8, wtf8_error_len}
use Rattle.utf16_wtf8.specs.ToWtf8.{item_point, points_of}
use Rattle.utf16_wtf8.specs.Wtf8.{HasNoPair, IsCodePoint, IsUnit, IsWtf8, code_points, generalized_utf8, wtf8_of_units}

-- the units of the code points of any units are these units
abbrev pub ThereAndBack : Type 0
ThereAndBack = (units : List ℕ) → All IsUnit units → flat_map encode_utf16 (code_points units) ≡ units

-- the code points of the units of code points are these code points, if no leading surrogate is
-- directly followed by a trailing one
abbrev pub BackAndThere : Type 0
BackAndThere = (points : List ℕ) → All IsCodePoint points → HasNoPair points → code_points (flat_map encode_utf16 points) ≡ points

-- the WTF-8 of any units is WTF-8
abbrev pub UnitsAreWtf8 : Type 0
UnitsAreWtf8 = (units : List ℕ) → All IsUnit units → IsWtf8 (wtf8_of_units units)

-- every WTF-8 is the WTF-8 of some units
abbrev pub Wtf8HasUnits : Type 0
Wtf8HasUnits = (bytes : List ℕ) → IsWtf8 bytes → (units : List ℕ) × All IsUnit units × (wtf8_of_units units ≡ bytes)

-- and not of other units
abbrev pub UnitsAreUnique : Type 0
UnitsAreUnique = (units others : List ℕ) → All IsUnit units → All IsUnit others → wtf8_of_units units ≡ wtf8_of_units others → units ≡ others

-- units are well formed: they are the units of a text (Unicode, section 3.9: well-formed UTF-16)
abbrev pub AreWellFormed : List ℕ → Type 0
AreWellFormed units = (text : List ℕ) × All IsScalar text × (flat_map encode_utf16 text ≡ units)

-- the WTF-8 of units is UTF-8 exactly if the units are well formed
abbrev pub Utf8IfWellFormed : Type 0
Utf8IfWellFormed = (units : List ℕ) → All IsUnit units → IsUtf8 (wtf8_of_units units) ↔ AreWellFormed units

-- the code points of a stream of UTF-16 cut in two are those that the first chunk decides, followed
-- by the points of its tail and the second chunk
abbrev pub CutAnywhere : Type 0
CutAnywhere = (big : Bool) (front back : List ℕ)
    → points_of big (front ++ back) ≡ map item_point (split_items big front) ++ points_of big (split_tail big front ++ back)

-- the UTF-16 of WTF-8 has that WTF-8
abbrev pub ReturnsToWtf8 : Type 0
ReturnsToWtf8 = (big : Bool) (wtf8 raw : List ℕ) → TranscodesFromWtf8 big wtf8 raw → flat_map generalized_utf8 (points_of big raw) ≡ wtf8

-- no code point begins the bytes
abbrev pub StartsWithNoPoint : List ℕ → Type 0
StartsWithNoPoint bytes = (point : ℕ) (more : List ℕ) → IsCodePoint point → bytes ≢ generalized_utf8 point ++ more

-- the bytes begin a code point, and more bytes complete it
pub record IsTruncated (part : List ℕ) : Type 0 where
  pub point : ℕ
  pub more : List ℕ
  pub code_point : IsCodePoint point
  pub some : more ≢ []
  pub spelled : part ++ more ≡ generalized_utf8 point

-- the first `len` bytes are a maximal subpart of an ill-formed subsequence in the Standard's words:
-- the longest prefix that begins a code point, or one byte (Unicode, section 3.9)
pub record IsMaximal (bytes : List ℕ) (len : ℕ) : Type 0 where
  pub some : 0 < len
  pub within : len ≤ length bytes
  pub begins : IsTruncated (take len bytes) ⊎ (len ≡ 1)
  pub longest : (n : ℕ) → len < n → n ≤ length bytes → ¬ (IsTruncated (take n bytes))

-- if no code point begins the bytes, `wtf8_error_len` is the length of the maximal subpart, unless
-- all of the bytes begin a code point
abbrev pub LenIsMaximal : Type 0
LenIsMaximal = (bytes : List ℕ) (len : ℕ) → StartsWithNoPoint bytes
    → (wtf8_error_len bytes ≡ Some len) ↔ (IsMaximal bytes len × (¬ (IsTruncated bytes)))

-- if no code point begins the bytes, `wtf8_error_len` is `None` exactly if all of them begin one
abbrev pub NoneIfTruncated : Type 0
NoneIfTruncated = (bytes : List ℕ) → StartsWithNoPoint bytes → (wtf8_error_len bytes ≡ None) ↔ IsTruncated bytes

-- an ill-formed sequence has one to three bytes, and no more than there are
abbrev pub LenIsFew : Type 0
LenIsFew = (bytes : List ℕ) (len : ℕ) → wtf8_error_len bytes ≡ Some len → (1 ≤ len) × (len ≤ 3) × (len ≤ length bytes)

-- the beginning of a code point has no length, even if the code point is a trailing surrogate and
-- follows a leading one
abbrev pub TruncatedHasNone : Type 0
TruncatedHasNone = (part : List ℕ) → IsTruncated part → wtf8_error_len part ≡ None

-- the ill-formed sequence at a surrogate, which is trailing and follows a leading one, is its three
-- bytes
abbrev pub PairHasThree : Type 0
PairHasThree = (unit : ℕ) (more : List ℕ) → 0xD800 ≤ unit → unit ≤ 0xDFFF → wtf8_error_len (generalized_utf8 unit ++ more) ≡ Some 3

-- the first code point of bytes is a trailing surrogate
pub record BeginsTrailing (bytes : List ℕ) : Type 0 where
  pub trail : ℕ
  pub more : List ℕ
  pub trailing : IsTrailing trail
  pub begins : bytes ≡ generalized_utf8 trail ++ more

-- WTF-8 and then WTF-8 is WTF-8, unless the first ends with a leading surrogate and the second
-- begins with a trailing one (The WTF-8 encoding: concatenating)
abbrev pub Concatenates : Type 0
Concatenates = (front back : List ℕ) → IsWtf8 front → IsWtf8 back
    → IsWtf8 (front ++ back) ↔ (EndsLeading front true → ¬ (BeginsTrailing back))

-- if WTF-8 begins with WTF-8, the rest is WTF-8 too
abbrev pub RestIsWtf8 : Type 0
RestIsWtf8 = (front back : List ℕ) → IsWtf8 front → IsWtf8 (front ++ back) → IsWtf8 back
