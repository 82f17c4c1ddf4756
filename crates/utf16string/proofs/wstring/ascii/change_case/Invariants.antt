use Rattle.std.proofs.Common.{◌-◌, length}
use Rattle.utf16string.specs.AsciiCase.{in_case}
use Rattle.utf16string.proofs.ChangedTo.{ChangedTo}
use Rattle.utf16string.proofs.wstring.ascii.change_case.Given as goal

abbrev pub invariant-loop-raw : goal.invariant-loop-raw
invariant-loop-raw g l = ChangedTo (in_case l.fn.case) g.E.Utf16Order.BIG l.fn.raw l.raw l.at

abbrev pub decreases-loop-raw : goal.decreases-loop-raw
decreases-loop-raw g l = length l.raw - l.at
