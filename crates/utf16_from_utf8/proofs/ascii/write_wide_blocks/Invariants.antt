use Rattle.std.proofs.Common.{◌≡◌, ◌-◌, ◌%◌, length}
use Rattle.utf16_from_utf8.specs.Ascii.{IsAsciiWritten}
use Rattle.utf16_from_utf8.proofs.ascii.write_wide_blocks.Given as goal

abbrev pub invariant-loop-at : goal.invariant-loop-at
invariant-loop-at g l = record {
  written : IsAsciiWritten g.E.Utf16Order.BIG l.bytes l.fn.out l.out l.at;
  blocks : l.at % 16 ≡ 0;
}

abbrev pub decreases-loop-at : goal.decreases-loop-at
decreases-loop-at g l = length l.bytes - l.at
