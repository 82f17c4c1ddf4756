use Rattle.std.proofs.Common.{◌-◌, length}
use Rattle.utf16_units.proofs.AsciiLemmas.{AsciiTo}
use Rattle.utf16_units.proofs.text.has_few_ascii_units.Given as goal

abbrev pub invariant-loop-at : goal.invariant-loop-at
invariant-loop-at g l = AsciiTo g.E.Utf16Order.BIG l.raw l.at

abbrev pub decreases-loop-at : goal.decreases-loop-at
decreases-loop-at g l = length l.raw - l.at
