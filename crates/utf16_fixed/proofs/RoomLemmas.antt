-- How much space suffices.
use Rattle.std.proofs.Common.{◌≡◌, ℕ, ◌-◌, ◌*◌, ◌/◌, ◌≤◌, Bool, List, length, take, drop, ap, ◌∙◌, sym, arith, length-append, length-drop, length-take-le}
use Rattle.utf16_units.specs.Encoding.{char_bytes, size}
use Rattle.utf16_units.proofs.CharLemmas.{char_size_cases, length-char_bytes}
use Rattle.utf16_units.proofs.EncodingLemmas.{length-encode}
use Rattle.utf16_transcode.specs.Stops.{NextDoesNotFit}
use Rattle.utf16_transcode.specs.Transcoded.{Writes}
use Rattle.utf16_fixed.specs.Utf32.{TranscodesFromUtf32, TranscodesToUtf32, utf32_units}
use Rattle.utf16_fixed.proofs.TextLemmas.{size-least, size-most}

-- what was read of UTF-16 is the size of what was written
pub read_size : (big : Bool) (raw to : List ℕ) (read written : ℕ) → Writes (TranscodesToUtf32 big) raw to read written → size (take written to) ≡ read
read_size big raw to read written wrote =
    sym (length-encode big (take written to)) ∙ ap length wrote.gives.spelled ∙ length-take-le read raw wrote.within

-- a code unit for every two bytes suffices
pub to_utf32_fits : (big : Bool) (raw to : List ℕ) (read written : ℕ) → Writes (TranscodesToUtf32 big) raw to read written
    → NextDoesNotFit (char_bytes big) utf32_units (drop read raw) (length to - written) → length raw / 2 ≤ length to → ⊥
to_utf32_fits big raw to read written wrote next room =
    let left = sym (length-drop read raw) ∙ ap length next.begins ∙ length-append (char_bytes big next.char) next.more in
    omega (
      arith,
      room,
      read_size big raw to read written wrote,
      size-least (take written to),
      length-take-le written to wrote.fits,
      left,
      length-char_bytes big next.char,
      char_size_cases next.char,
      next.too_long,
    )

-- what was written in UTF-16 is the size of what was read
pub written_size : (big : Bool) (units to : List ℕ) (read written : ℕ) → Writes (TranscodesFromUtf32 big) units to read written → size (take read units) ≡ written
written_size big units to read written wrote =
    sym (length-encode big (take read units)) ∙ ap length wrote.gives.spelled ∙ length-take-le written to wrote.fits

-- four bytes for every code unit suffice
pub from_utf32_fits : (big : Bool) (units to : List ℕ) (read written : ℕ) → Writes (TranscodesFromUtf32 big) units to read written
    → NextDoesNotFit utf32_units (char_bytes big) (drop read units) (length to - written) → 4 * length units ≤ length to → ⊥
from_utf32_fits big units to read written wrote next room =
    omega (
      arith,
      room,
      written_size big units to read written wrote,
      size-most (take read units),
      length-take-le read units wrote.within,
      sym (length-drop read units) ∙ ap length next.begins,
      length-char_bytes big next.char,
      char_size_cases next.char,
      next.too_long,
    )
