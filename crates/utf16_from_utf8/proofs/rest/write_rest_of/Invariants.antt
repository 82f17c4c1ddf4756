use Rattle.std.proofs.Common.{◌-◌, ◌≤◌, length}
use Rattle.utf16_from_utf8.specs.Rest.{IsTried}
use Rattle.utf16_from_utf8.proofs.rest.write_rest_of.Given as goal

abbrev pub invariant-loop-read : goal.invariant-loop-read
invariant-loop-read g l = record {
  after : l.fn.from ≤ l.read;
  within : l.read ≤ length l.bytes;
  tried : IsTried g.E.Utf16Order.BIG l.bytes l.out l.fn.from l.read l.tried.written l.tried.faults;
}

abbrev pub decreases-loop-read : goal.decreases-loop-read
decreases-loop-read g l = length l.bytes - l.read
