-- WTF-8 that is written in UTF-16: what a call wrote, and why it stopped.
use Rattle.std.specs.Prelude.{◌≡◌, ◌≢◌, ℕ, ◌+◌, ◌-◌, ◌<◌, ◌≤◌, ◌⊎◌, Bool, true, false, ◌&&◌, List, ◌++◌, Option, None, Some, length, take, drop, nat_lt, ◌==◌, slice_index, if◌then◌else◌}
use Rattle.std.specs.Int.{is_in_range}
use Rattle.std.specs.List.{flat_map}
use Rattle.std.specs.Str.Lossy.{utf8_error_len}
use Rattle.utf16_units.specs.Encoding.{char_bytes, size}
use Rattle.utf16_units.specs.Unit.{IsLeading, IsTrailing}
use Rattle.utf16_transcode.specs.Transcoded.{Writes}
use Rattle.utf16_transcode.specs.declared.progress.Stop.{Stop}
use Rattle.utf16_transcode.specs.declared.progress.Stop.TheVariants.{Incomplete, Done, IllFormed, NoSpace}
use Rattle.utf16_wtf8.specs.Wtf8.{IsCodePoint, IsWtf8, SpellsWtf8, ends_leading, generalized_utf8}

-- WTF-8, and the UTF-16 of its code points: a surrogate is one unit
pub record TranscodesFromWtf8 (big : Bool) (wtf8 raw : List ℕ) : Type 0 where
  pub points : List ℕ
  pub spells : SpellsWtf8 points wtf8
  pub units : raw ≡ flat_map (char_bytes big) points

-- what was read is the WTF-8 of code points, of which the last is a leading surrogate or not, and
-- their UTF-16 is at the start of the buffer
pub record ReadsWtf8 (big : Bool) (wtf8 to : List ℕ) (read written : ℕ) (leading : Bool) : Type 0 where
  pub within : read ≤ length wtf8
  pub fits : written ≤ length to
  pub points : List ℕ
  pub spells : SpellsWtf8 points (take read wtf8)
  pub units : take written to ≡ flat_map (char_bytes big) points
  pub last : ends_leading points ≡ leading

-- n is the length of the longest prefix that is WTF-8, and more bytes follow
pub record IsWtf8ValidUpTo (bytes : List ℕ) (n : ℕ) : Type 0 where
  pub short : n < length bytes
  pub front : IsWtf8 (take n bytes)
  pub longest : (m : ℕ) → n < m → ¬ (IsWtf8 (take m bytes))

-- the first two bytes begin a surrogate: ED, and then A0 to BF
abbrev pub surrogate_begins : List ℕ → Bool
surrogate_begins bytes = (slice_index bytes 0 == 0xED) && is_in_range 0xA0 0xBF (slice_index bytes 1)

-- the length of the ill-formed sequence after the longest prefix that is WTF-8, like Rust's
-- `error_len`: all three bytes of a trailing surrogate, which follows a leading one; two bytes that
-- begin a surrogate that a third does not complete; and otherwise the length that UTF-8 has. `None`
-- if more bytes may complete a code point
abbrev pub wtf8_error_len : List ℕ → Option ℕ
wtf8_error_len rest =
    if surrogate_begins rest then (if nat_lt (length rest) 3 then None else (if is_in_range 0x80 0xBF (slice_index rest 2) then Some 3 else Some 2))
    else utf8_error_len rest

-- the longest prefix of bytes that are not WTF-8, and the `error_len` of what follows it
abbrev pub IsIllFormedWtf8 : List ℕ → ℕ → Option ℕ → Type 0
IsIllFormedWtf8 bytes valid_up_to error_len = IsWtf8ValidUpTo bytes valid_up_to × (error_len ≡ wtf8_error_len (drop valid_up_to bytes))

-- no code point that may follow what was read begins these bytes: if any does, it is a trailing
-- surrogate, and the last one that was read is a leading surrogate
abbrev pub NoPointContinues : Bool → List ℕ → Type 0
NoPointContinues after_leading rest =
    (point : ℕ) (more : List ℕ) → IsCodePoint point → rest ≡ generalized_utf8 point ++ more → (after_leading ≡ true) × IsTrailing point

-- what follows the longest prefix, stated about the rest of the bytes
abbrev pub IsIllFormedAfter : Bool → List ℕ → Option ℕ → Type 0
IsIllFormedAfter after_leading rest error_len = NoPointContinues after_leading rest × (error_len ≡ wtf8_error_len rest)

-- why a call stops before these bytes
abbrev pub StopsAfter : Bool → List ℕ → Stop → Type 0
StopsAfter after_leading rest Done = ⊥
StopsAfter after_leading rest (IllFormed len) = IsIllFormedAfter after_leading rest (Some len)
StopsAfter after_leading rest Incomplete = IsIllFormedAfter after_leading rest None
StopsAfter after_leading rest NoSpace = ⊥

-- the bytes begin with a surrogate that may follow what was read
pub record BeginsWithSurrogate (after_leading : Bool) (rest : List ℕ) (unit : ℕ) : Type 0 where
  pub from : 0xD800 ≤ unit
  pub to : unit ≤ 0xDFFF
  pub within : 3 ≤ length rest
  pub spelled : take 3 rest ≡ generalized_utf8 unit
  pub unpaired : after_leading ≡ true → ¬ (IsTrailing unit)

-- a code point follows what was read, and its UTF-16 does not fit
pub record NextPointDoesNotFit (big : Bool) (bytes : List ℕ) (read left : ℕ) : Type 0 where
  pub point : ℕ
  pub more : List ℕ
  pub code_point : IsCodePoint point
  pub begins : drop read bytes ≡ generalized_utf8 point ++ more
  pub continues : IsWtf8 (take (read + length (generalized_utf8 point)) bytes)
  pub too_long : left < length (char_bytes big point)

-- the last code point of WTF-8 is a leading surrogate, or it is not
abbrev pub EndsLeading : List ℕ → Bool → Type 0
EndsLeading wtf8 leading = (points : List ℕ) → SpellsWtf8 points wtf8 → ends_leading points ≡ leading

-- a leading surrogate was not read, and nothing follows it, or a truncated code point
pub record LeavesLeading (bytes : List ℕ) (read : ℕ) : Type 0 where
  pub lead : ℕ
  pub leading : IsLeading lead
  pub within : read + 3 ≤ length bytes
  pub begins : take 3 (drop read bytes) ≡ generalized_utf8 lead
  pub after : (read + 3 ≡ length bytes) ⊎ IsIllFormedWtf8 bytes (read + 3) None

-- why a call stopped
abbrev pub StopsFromWtf8 : Bool → List ℕ → ℕ → ℕ → Stop → Type 0
StopsFromWtf8 big bytes read left Done = read ≡ length bytes
StopsFromWtf8 big bytes read left (IllFormed len) = IsIllFormedWtf8 bytes read (Some len)
StopsFromWtf8 big bytes read left Incomplete = IsIllFormedWtf8 bytes read None
StopsFromWtf8 big bytes read left NoSpace = NextPointDoesNotFit big bytes read left

-- why a call stopped that leaves a truncated code point at the end, or a leading surrogate, which a
-- trailing one may follow, or one and then the other
abbrev pub StopsFromWtf8Partial : Bool → List ℕ → ℕ → ℕ → Stop → Type 0
StopsFromWtf8Partial big bytes read left Done = (read ≡ length bytes) × EndsLeading (take read bytes) false
StopsFromWtf8Partial big bytes read left (IllFormed len) = IsIllFormedWtf8 bytes read (Some len)
StopsFromWtf8Partial big bytes read left Incomplete =
    (IsIllFormedWtf8 bytes read None × EndsLeading (take read bytes) false) ⊎ LeavesLeading bytes read
StopsFromWtf8Partial big bytes read left NoSpace = NextPointDoesNotFit big bytes read left

-- the length of the UTF-16, in either byte order, of the code points of the longest prefix that is
-- WTF-8: of all of the bytes, if they are WTF-8
pub record HasUtf16Len (wtf8 : List ℕ) (len : ℕ) : Type 0 where
  pub read : ℕ
  pub within : read ≤ length wtf8
  pub points : List ℕ
  pub spells : SpellsWtf8 points (take read wtf8)
  pub longest : (read ≡ length wtf8) ⊎ IsWtf8ValidUpTo wtf8 read
  pub is : len ≡ size points

-- whatever buffer `from_wtf8` is given, it writes this many bytes, or stops with `NoSpace` because
-- the buffer is shorter
abbrev pub IsWrittenIfItFits : List ℕ → ℕ → Type 0
IsWrittenIfItFits wtf8 len =
    (big : Bool) (to : List ℕ) (read written : ℕ) (stop : Stop) → Writes (TranscodesFromWtf8 big) wtf8 to read written
    → StopsFromWtf8 big wtf8 read (length to - written) stop → (stop ≢ NoSpace → written ≡ len) × (stop ≡ NoSpace → length to < len)
