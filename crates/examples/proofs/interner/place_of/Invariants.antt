use Rattle.std.proofs.Common.{◌-◌}
use Rattle.examples.specs.Interner.{IsSought}
use Rattle.examples.proofs.interner.place_of.Given as goal

abbrev pub invariant-loop-low : goal.invariant-loop-low
invariant-loop-low g l = IsSought l.text l.ends l.order l.name l.low l.high

abbrev pub decreases-loop-low : goal.decreases-loop-low
decreases-loop-low g l = l.high - l.low
