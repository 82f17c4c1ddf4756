-- The ASCII at the start of bytes, written in UTF-16 over the start of a buffer.
use Rattle.std.specs.Prelude.{◌≡◌, ℕ, ◌*◌, ◌≤◌, Bool, List, drop, length, take}
use Rattle.std.specs.Str.{IsAscii, chars}
use Rattle.utf16_units.specs.Encoding.{encode}

-- the first n bytes, which are ASCII, were written in UTF-16, and the rest of the buffer stays
pub record IsAsciiWritten (big : Bool) (bytes old new : List ℕ) (n : ℕ) : Type 0 where
  pub within : n ≤ length bytes
  pub ascii : IsAscii (take n bytes)
  pub wrote : take (2 * n) new ≡ encode big (chars (take n bytes))
  pub rest : drop (2 * n) new ≡ drop (2 * n) old
