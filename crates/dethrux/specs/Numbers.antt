-- The meaning of the numbers that C passes and gets.
use Rattle.std.specs.Prelude.{◌≡◌, ◌≢◌, ℕ, ◌+◌, ◌-◌, ◌*◌, ◌^◌, ◌≤◌, ◌==◌, Bool, List, None, Some, Option, Result, Ok, Err, length, if◌then◌else◌}
use Rattle.utf16_units.specs.Encoding.{IsUtf16}
use Rattle.utf16_units.specs.IllFormed.{IsIllFormed, IsUtf16ValidUpTo}
use Rattle.utf16_units.specs.Utf16Error.{error_len, valid_up_to}
use Rattle.utf16_units.specs.declared.error.Utf16Error.{Utf16Error}
use Rattle.utf16_fixed.specs.declared.latin1_stop.Latin1Stop.{Latin1Stop}
use Rattle.utf16_fixed.specs.declared.latin1_stop.Latin1Stop.TheVariants as latin1
use Rattle.utf16_fixed.specs.declared.repertoire.Repertoire.{Repertoire}
use Rattle.utf16_fixed.specs.declared.repertoire.Repertoire.TheVariants.{Ascii, Bmp, Latin1, Unicode}
use Rattle.utf16_transcode.specs.declared.progress.Stop.{Stop}
use Rattle.utf16_transcode.specs.declared.progress.Stop.TheVariants.{Incomplete, Done, IllFormed, NoSpace}
use Rattle.dethrux.specs.declared.results.Progress.{Progress}

-- the byte order is big endian; every other number is little endian
abbrev pub is_big : ℕ → Bool
is_big byte_order = byte_order == 1

-- why a call stopped, by its status and the length of the ill-formed sequence
abbrev pub stop_of_status : ℕ → ℕ → Stop
stop_of_status status error_len =
    if status == 0 then Done else (if status == 1 then IllFormed error_len else (if status == 2 then Incomplete else NoSpace))

-- the same, by the result of the call
abbrev pub stop_of : Progress → Stop
stop_of progress = stop_of_status progress.status progress.error_len

-- why a call to Latin-1 stopped: it has one more reason
abbrev pub latin1_stop_of : Progress → Latin1Stop
latin1_stop_of progress =
    if progress.status == 0 then latin1.Done else (if progress.status == 1 then latin1.IllFormed progress.error_len
    else (if progress.status == 2 then latin1.Incomplete else (if progress.status == 3 then latin1.NoSpace else latin1.NotLatin1)))

-- the status of such a call is one of the five
abbrev pub AreLatin1Numbers : ℕ → ℕ → Type 0
AreLatin1Numbers status error_len = (status ≤ 4) × (status ≢ 1 → error_len ≡ 0)

-- the repertoire of a number
abbrev pub repertoire_of : ℕ → Repertoire
repertoire_of number = if number == 0 then Ascii else (if number == 1 then Latin1 else (if number == 2 then Bmp else Unicode))

-- the status is one of the four, and only an ill-formed sequence has a length
abbrev pub AreNumbers : ℕ → ℕ → Type 0
AreNumbers status error_len = (status ≤ 3) × (status ≢ 1 → error_len ≡ 0)

-- the validator's result as such a reason, and as a length
abbrev pub error_stop : Option ℕ → Stop
error_stop (Some len) = IllFormed len
error_stop None = Incomplete

abbrev pub validity_stop : Result (Unit {0}) Utf16Error → Stop
validity_stop (Ok done) = Done
validity_stop (Err e) = error_stop (error_len e)

abbrev pub validity_up_to : ℕ → Result (Unit {0}) Utf16Error → ℕ
validity_up_to len (Ok done) = len
validity_up_to len (Err e) = valid_up_to e

-- the longest well-formed prefix ends at `valid_up_to`: at the end of a text, or before what the
-- reason names
abbrev pub IsValidity : Bool → List ℕ → ℕ → Stop → Type 0
IsValidity big utf16 valid_up_to Done = (valid_up_to ≡ length utf16) × IsUtf16 big utf16
IsValidity big utf16 valid_up_to (IllFormed len) = IsUtf16ValidUpTo big utf16 valid_up_to × IsIllFormed big utf16 (Some len)
IsValidity big utf16 valid_up_to Incomplete = IsUtf16ValidUpTo big utf16 valid_up_to × IsIllFormed big utf16 None
IsValidity big utf16 valid_up_to NoSpace = ⊥

-- an offset as C gets it: the greatest number of 64 bits if there is none
abbrev pub offset_number : Option ℕ → ℕ
offset_number (Some at) = at
offset_number None = 2 ^ 64 - 1

-- a version as one number, so that versions can be compared
abbrev pub version_number : ℕ → ℕ → ℕ → ℕ
version_number major minor patch = major * 1000000 + minor * 1000 + patch
