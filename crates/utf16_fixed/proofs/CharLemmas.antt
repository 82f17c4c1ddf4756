-- Latin-1 as a text, and the character at the start of bytes by its first unit.
use Rattle.std.proofs.Common.{◌≡◌, ◌↔◌, ℕ, ◌<◌, ◌≤◌, Bool, List, [], ◌∷◌, ◌++◌, length, take, drop, slice_index, All, Fits, w8, sym, ap, ◌∙◌, arith, flat_map, append-nil, drop-cons, take-append-drop}
use Rattle.std.proofs.lemmas.Bool.{cases_lt}
use Rattle.std.proofs.lemmas.List.Elements.{All-cons, All-nil}
use Rattle.std.proofs.lemmas.Simd.{chunk-fits}
use Rattle.std.proofs.Math.Utf8.{low_scalar}
use Rattle.std.proofs.str.Utf16.{one_unit, two_units}
use Rattle.std.specs.Char.{IsScalar}
use lib.Lanes.{Each1}
use Rattle.utf16_units.specs.Unit.{unit_bytes}
use Rattle.utf16_units.specs.Encoding.{char_bytes, encode, units_of}
use Rattle.utf16_units.specs.IllFormed.{BeginsWithChar}
use Rattle.utf16_units.proofs.CharLemmas.{one_unit_bytes}
use Rattle.utf16_units.proofs.EncodingLemmas.{encode-cons, encode-nil}
use Rattle.utf16_units.proofs.FirstChar.{first_unit}
use Rattle.utf16_units.proofs.UnitLemmas.{units_of-units}
use Rattle.utf16_fixed.specs.StopsLatin1.{BeginsWithA, IsAboveLatin1, IsLatin1}

-- bytes are scalar values
pub bytes-scalars : (text : List ℕ) → Each1 (Fits w8) text → All IsScalar text
bytes-scalars [] fits = All-nil IsScalar
bytes-scalars (c ∷ text) fits = All-cons IsScalar c text (low_scalar c (omega (arith, fits.0.fits))) (bytes-scalars text fits.1)

-- and each is the one unit of its character
pub encode-bytes : (big : Bool) (text : List ℕ) → Each1 (Fits w8) text → flat_map (unit_bytes big) text ≡ encode big text
encode-bytes big [] fits = sym (encode-nil big)
encode-bytes big (c ∷ text) fits = grind (arith, one_unit_bytes, encode-cons, encode-bytes big text fits.1)

-- ---- the first character

head_unit : (big : Bool) (bytes units : List ℕ) (unit : ℕ) → units_of big bytes ≡ unit ∷ units → first_unit big bytes ≡ unit
unfolding units_of
head_unit big (first ∷ second ∷ bytes) units unit is = cc
head_unit big bytes units unit is = cc

-- the first unit is the character, or a leading surrogate, which Latin-1 does not have
first_is : (big : Bool) (bytes more : List ℕ) (c : ℕ) → bytes ≡ char_bytes big c ++ more → (first_unit big bytes < 0x100) ↔ (c < 0x100)
first_is big bytes more c is = grind (arith, units_of-units, head_unit, one_unit, two_units, cases_lt)

module _ (big : Bool) (rest : List ℕ) (n : ℕ) (first : BeginsWithChar big rest n) where
  begins : rest ≡ char_bytes big first.char ++ drop n rest
  begins = sym (take-append-drop n rest) ∙ ap (λ front. front ++ drop n rest) first.spelled

  begins_with : (Kind : ℕ → Type 0) → Kind first.char → BeginsWithA Kind big rest
  begins_with Kind kind = record { char = first.char; more = drop n rest; scalar = first.scalar; begins = begins; kind = kind }

  pub begins_latin1 : first_unit big rest < 0x100 → BeginsWithA IsLatin1 big rest
  begins_latin1 low = begins_with IsLatin1 ((first_is big rest (drop n rest) first.char begins).0 low)

  pub begins_above : 0x100 ≤ first_unit big rest → BeginsWithA IsAboveLatin1 big rest
  begins_above high = begins_with IsAboveLatin1 (grind (arith, (first_is big rest (drop n rest) first.char begins).1))

-- bytes that begin with a character of Latin-1 have its unit
pub latin1_unit : (big : Bool) (rest : List ℕ) → BeginsWithA IsLatin1 big rest → first_unit big rest < 0x100
latin1_unit big rest begins = (first_is big rest begins.more begins.char begins.begins).1 begins.kind

-- the bytes of one character
pub one-byte : (big : Bool) (latin1 : List ℕ) (at : ℕ) → at < length latin1 → ((k : ℕ) → Fits w8 (slice_index latin1 k))
    → unit_bytes big (slice_index latin1 at) ≡ encode big (take 1 (drop at latin1))
one-byte big latin1 at within fits = grind (arith, drop-cons, append-nil, encode-bytes, chunk-fits)
