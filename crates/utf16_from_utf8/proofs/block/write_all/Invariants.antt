use Rattle.std.proofs.Common.{◌-◌, ◌≡◌, ◌+◌, ◌*◌, ◌≤◌, ◌%◌, ◌++◌, drop, take}
use Rattle.utf16_from_utf8.specs.Added.{added_bytes}
use Rattle.utf16_from_utf8.proofs.block.write_all.Given as goal

abbrev pub invariant-loop-k : goal.invariant-loop-k
invariant-loop-k g l = record {
  some : 16 ≤ l.k;
  most : l.k ≤ 64;
  steps : l.k % 16 ≡ 0;
  wrote : take l.end l.out ≡ take l.fn.from.written l.fn.out ++ added_bytes g.E.Utf16Order.BIG 0 0 (take l.k (drop l.read l.bytes));
  short : l.end ≤ l.fn.from.written + 2 * l.k;
}

abbrev pub decreases-loop-k : goal.decreases-loop-k
decreases-loop-k g l = 64 - l.k
