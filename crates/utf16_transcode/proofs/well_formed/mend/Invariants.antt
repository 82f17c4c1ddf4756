use Rattle.std.proofs.Common.{◌-◌, length}
use Rattle.utf16_transcode.proofs.MendLemmas.{Mended}
use Rattle.utf16_transcode.proofs.well_formed.mend.Given as goal

abbrev pub invariant-loop-at : goal.invariant-loop-at
invariant-loop-at g l = Mended g.E.Utf16Order.BIG l.fn.utf16 l.utf16 l.at l.count

abbrev pub decreases-loop-at : goal.decreases-loop-at
decreases-loop-at g l = length l.utf16 - l.at
