use Rattle.std.proofs.Common.{◌≡◌, ◌^◌, ◌<◌, ◌∙◌, ap, arith, length, map, subst, sym}
use lib.Lanes.{mask_l}
use Rattle.utf16_fixed.specs.Pairs.{halved}
use Rattle.utf16_fixed.specs.Utf32.{above}
use Rattle.utf16_fixed.proofs.CharsLemmas.{few-halves, length-halved, set-halves}
use Rattle.utf16_fixed.proofs.chars.kept_bits.Goals as goal
use Rattle.utf16_fixed.proofs.chars.kept_bits.Goals.{After-halved}

long : (c : After-halved) → length c.halved.result ≡ 16
long c = ap length c.halved.ensures ∙ length-halved c.kept_lanes.result ∙ omega (arith, c.kept_lanes.ensures.len)

pub returns-clause-bits : goal.returns-clause-bits
returns-clause-bits c =
    let at = (goal.at.returns-clause-bits c).After-halved in
    set-halves c.halved.result (long at) ∙ ap (λ us. mask_l (map (above 0) us)) (c.halved.ensures ∙ ap halved c.kept_lanes.ensures.lanes)

pub returns-clause-bound : goal.returns-clause-bound
returns-clause-bound c =
    let at = (goal.at.returns-clause-bound c).After-halved in
    subst (λ n. n < 2 ^ 16) (sym (set-halves c.halved.result (long at))) (few-halves c.halved.result (long at))
