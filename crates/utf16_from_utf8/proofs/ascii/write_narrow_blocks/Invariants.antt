use Rattle.std.proofs.Common.{◌≡◌, ◌-◌, ◌%◌, ◌≤◌, List, ℕ, length}
use Rattle.utf16_from_utf8.specs.Ascii.{IsAsciiWritten}
use Rattle.utf16_from_utf8.proofs.ascii.write_narrow_blocks.Given as goal

abbrev pub invariant-loop-at : goal.invariant-loop-at
invariant-loop-at g l = record {
  written : (before : List ℕ) → IsAsciiWritten g.E.Utf16Order.BIG l.bytes before l.fn.out l.fn.from → IsAsciiWritten g.E.Utf16Order.BIG l.bytes before l.out l.at;
  within : l.at ≤ length l.bytes;
  blocks : l.at % 16 ≡ 0;
}

abbrev pub decreases-loop-at : goal.decreases-loop-at
decreases-loop-at g l = length l.bytes - l.at
