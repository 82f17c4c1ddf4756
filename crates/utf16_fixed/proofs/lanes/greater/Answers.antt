use Rattle.std.proofs.Common.{◌<◌, ◌∙◌, All, subst, sym}
use Rattle.utf16_fixed.proofs.GreatestLemmas.{lanes_below}
use Rattle.utf16_fixed.proofs.LaneLemmas.{compared}
use Rattle.utf16_fixed.proofs.lanes.greater.Goals as goal

pub returns : goal.returns
returns c limit all =
    let first = c.args.first in
    let second = c.args.second in
    (lanes_below limit first second (c.fits-first.0 ∙ sym c.fits-second.0)).0 (subst (All (λ unit. unit < limit)) (compared first second second first) all)
