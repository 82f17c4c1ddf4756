use Rattle.std.proofs.Common.{◌≡◌}
use Rattle.uses_strings.proofs.walks.collect_by_loop.Given as goal

-- what was pushed is what was yielded so far
abbrev pub invariant-loop-c : goal.invariant-loop-c
invariant-loop-c g l = l.found.items ≡ l.yielded
