-- The progress of a writer of UTF-16 that validates the UTF-8 that it reads.
use Rattle.std.specs.Prelude.{◌≡◌, ℕ, ◌*◌, ◌≤◌, Bool, List, length, take}
use Rattle.std.specs.Str.{IsUtf8, chars}
use Rattle.utf16_units.specs.Encoding.{encode}

-- the first `read` bytes are well formed, and were written in UTF-16: `written` bytes, at most two
-- for each
pub record IsWritten (big : Bool) (bytes out : List ℕ) (read written : ℕ) : Type 0 where
  pub within : read ≤ length bytes
  pub well_formed : IsUtf8 (take read bytes)
  pub wrote : take written out ≡ encode big (chars (take read bytes))
  pub short : written ≤ 2 * read
  pub fits : written ≤ length out
