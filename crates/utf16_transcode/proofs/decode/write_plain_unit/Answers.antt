use Rattle.std.proofs.Common.{◌≡◌, ◌≤◌, ◌++◌, ℕ, Bool, List, length, take}
use Rattle.std.specs.Char.{encode_utf8}
use Rattle.utf16_units.specs.Encoding.{char_bytes}
use Rattle.utf16_transcode.specs.Stops.{BeginsWith}
use Rattle.utf16_transcode.specs.Transcoded.{WritesAt, TranscodesToUtf8}
use Rattle.utf16_transcode.proofs.ToUtf8Lemmas.{char_gives}
use Rattle.utf16_transcode.proofs.TranscodedLemmas.{first_gives}
use Rattle.utf16_transcode.proofs.decode.write_plain_unit.Goals as goal

one : (big : Bool) (rest old new : List ℕ) (at c end : ℕ) → BeginsWith (char_bytes big) rest c 2 → end ≤ length new → take end new ≡ take at old ++ encode_utf8 c
    → WritesAt (TranscodesToUtf8 big) rest old new at 2 end
one big rest old new at c end first fits bytes = record {
  within = first.within;
  fits = fits;
  added = _;
  gives = first_gives (char_bytes big) encode_utf8 _ _ _ first (TranscodesToUtf8 big) (char_gives big);
  bytes = bytes;
}

pub returns-then-unit-lt128-clause-puts : goal.returns-then-unit-lt128-clause-puts
returns-then-unit-lt128-clause-puts g c =
    one g.E.Utf16Order.BIG _ _ _ _ _ _ c.plain_first_char.ensures.char c.put_char.ensures.within c.put_char.ensures.bytes

pub returns-then-unit-lt2048-clause-puts : goal.returns-then-unit-lt2048-clause-puts
returns-then-unit-lt2048-clause-puts g c =
    one g.E.Utf16Order.BIG _ _ _ _ _ _ c.plain_first_char-then-unit-lt2048.ensures.char c.put_char-then-unit-lt2048.ensures.within c.put_char-then-unit-lt2048.ensures.bytes

pub returns-clause-puts : goal.returns-clause-puts
returns-clause-puts g c = one g.E.Utf16Order.BIG _ _ _ _ _ _ c.plain_first_char-2.ensures.char c.put_char-2.ensures.within c.put_char-2.ensures.bytes
