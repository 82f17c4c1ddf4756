use Rattle.std.proofs.Common.{◌≡◌, ◌-◌, ◌≤◌, length}
use Rattle.utf16_from_utf8.specs.Written.{IsWritten}
use Rattle.utf16_from_utf8.proofs.threes.write_threes.Given as goal

abbrev pub invariant-loop-read : goal.invariant-loop-read
invariant-loop-read g l = record {
  done : IsWritten g.E.Utf16Order.BIG l.bytes l.out l.read l.written;
  advances : l.fn.from.read ≤ l.read;
  stays : l.read ≡ l.fn.from.read → l.written ≡ l.fn.from.written;
}

abbrev pub decreases-loop-read : goal.decreases-loop-read
decreases-loop-read g l = length l.bytes - l.read
