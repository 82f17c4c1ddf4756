-- The rest of a text, written after what was written, and validated at the same time.
use Rattle.std.specs.Prelude.{◌≡◌, ℕ, ◌+◌, ◌*◌, ◌<◌, ◌≤◌, ◌↔◌, Bool, List, ◌++◌, length, slice_index, take}
use Rattle.std.specs.Str.{IsUtf8, chars}
use Rattle.utf16_units.specs.Encoding.{encode}
use Rattle.utf16_from_utf8.specs.Added.{added_bytes}
use Rattle.utf16_from_utf8.specs.Follow.{FollowTo}

-- the bytes from `from` on and before `read` were written after those before them: `written` bytes,
-- which are right if each byte may follow those before it; the lanes are zero exactly if so
pub record IsTried (big : Bool) (bytes out : List ℕ) (from read written : ℕ) (lanes : List ℕ) : Type 0 where
  pub faults : ((i : ℕ) → i < 16 → slice_index lanes i < 1) ↔ FollowTo read bytes 0
  pub wrote : FollowTo read bytes 0
      → encode big (chars (take from bytes)) ++ take written out
      ≡ added_bytes big 0 0 (take read bytes)
  pub short : written + 2 * from ≤ 2 * read

-- all bytes are a text, whose rest from `from` on was written in UTF-16: `end` bytes, at most two
-- for each
pub record IsRestWritten (big : Bool) (bytes out : List ℕ) (from end : ℕ) : Type 0 where
  pub well_formed : IsUtf8 bytes
  pub wrote : encode big (chars (take from bytes)) ++ take end out ≡ encode big (chars bytes)
  pub short : end + 2 * from ≤ 2 * length bytes
