use Rattle.std.proofs.Common.{◌≡◌, ◌*◌, ◌-◌, ◌≤◌}
use Rattle.utf16_transcode.specs.Transcoded.{Writes}
use Rattle.utf16_transcode.specs.FromUtf8.{TranscodesToUtf16}
use Rattle.utf16_transcode.proofs.encode.write_ascii_chars.Given as goal

abbrev pub invariant-loop-len : goal.invariant-loop-len
invariant-loop-len g l = record {
  wrote : Writes (TranscodesToUtf16 g.E.Utf16Order.BIG) l.bytes l.to l.len l.end;
  twice : l.end ≡ 2 * l.len;
  most : l.len ≤ l.most;
}

abbrev pub decreases-loop-len : goal.decreases-loop-len
decreases-loop-len g l = l.most - l.len
