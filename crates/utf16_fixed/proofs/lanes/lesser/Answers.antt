use Rattle.std.proofs.Common.{◌≤◌, ◌∙◌, All, subst, sym}
use Rattle.utf16_fixed.proofs.LaneLemmas.{compared, least-both}
use Rattle.utf16_fixed.proofs.lanes.lesser.Goals as goal

pub returns : goal.returns
returns c limit all =
    let first = c.args.first in
    let second = c.args.second in
    least-both limit first second (c.fits-first.0 ∙ sym c.fits-second.0) (subst (All (λ unit. limit ≤ unit)) (compared first second first second) all)
