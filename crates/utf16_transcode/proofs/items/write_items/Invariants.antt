use Rattle.std.proofs.Common.{◌≡◌, ◌-◌, ◌<◌, ◌⊎◌, length}
use Rattle.utf16_transcode.specs.Utf8Stream.{DecodesUtf8To}
use Rattle.utf16_transcode.proofs.items.write_items.Given as goal

-- what was read so far is decoded and written, and before anything was read there is no run
abbrev pub invariant-loop-run : goal.invariant-loop-run
invariant-loop-run g l = record {
  decodes : DecodesUtf8To g.E.Utf16Order.BIG l.text l.to l.read l.written;
  begins : (0 < l.read) ⊎ ((l.run ≡ 0) × (l.written ≡ 0));
}

abbrev pub decreases-loop-run : goal.decreases-loop-run
decreases-loop-run g l = length l.text - l.read
