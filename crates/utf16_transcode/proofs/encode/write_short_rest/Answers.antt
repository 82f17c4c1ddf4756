use Rattle.std.proofs.Common.{arith}
use Rattle.std.specs.Char.{encode_utf8}
use Rattle.utf16_units.specs.Encoding.{char_bytes}
use Rattle.utf16_transcode.proofs.TranscodedLemmas.{Writes-then, first_gives}
use Rattle.utf16_transcode.specs.FromUtf8.{TranscodesToUtf16}
use Rattle.utf16_transcode.proofs.FromUtf8Lemmas.{char_gives, utf16_joins}
use Rattle.utf16_transcode.proofs.encode.write_short_rest.Goals as goal

pub loop-read-preserved : goal.loop-read-preserved
loop-read-preserved g c =
    let big = g.E.Utf16Order.BIG in
    let first = c.in-Ok.ensures.char in
    let now = c.loop-read.invariant in
    record {
      wrote =
          Writes-then (utf16_joins big) _ _ _ _ _ _ _ now.wrote
          record {
            within = first.within;
            fits = c.write_char-written.ensures.within;
            added = _;
            gives = first_gives encode_utf8 (char_bytes big) _ _ _ first (TranscodesToUtf16 big) (char_gives big);
            bytes = c.write_char-written.ensures.bytes;
          };
      more = omega (arith, now.more);
    }
