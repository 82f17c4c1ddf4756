use Rattle.std.proofs.Common.{All, ◌≤◌, arith, subst, take}
use Rattle.utf16_fixed.proofs.FrontLemmas.{front-below, front_len-all, front_len-few, front_len-lowest}
use Rattle.utf16_fixed.proofs.lanes.len_up_to.Goals as goal

pub returns-then-others-eq0-clause-up_to : goal.returns-then-others-eq0-clause-up_to
returns-then-others-eq0-clause-up_to g c =
    let are = c.bits_above-others.ensures in
    let long = c.fits-units.0 in
    subst (λ n. All (λ unit. unit ≤ c.args.limit) (take n c.args.units)) (front_len-all c.args.units g.row.N c.args.limit _ long c.requires are c.if-others-eq0.true)
    (front-below c.args.units g.row.N c.args.limit _ long c.requires are)

pub returns-else-others-eq0-clause-few : goal.returns-else-others-eq0-clause-few
returns-else-others-eq0-clause-few g c =
    let are = c.bits_above-others.ensures in
    let long = c.fits-units.0 in
    subst (λ n. n ≤ g.row.N) (front_len-lowest c.args.units g.row.N c.args.limit _ long c.requires are (omega (arith, c.if-others-eq0.false)))
    (front_len-few c.args.units g.row.N c.args.limit _ long c.requires are)

pub returns-else-others-eq0-clause-up_to : goal.returns-else-others-eq0-clause-up_to
returns-else-others-eq0-clause-up_to g c =
    let are = c.bits_above-others.ensures in
    let long = c.fits-units.0 in
    subst (λ n. All (λ unit. unit ≤ c.args.limit) (take n c.args.units)) (front_len-lowest c.args.units g.row.N c.args.limit _ long c.requires are (omega (arith, c.if-others-eq0.false)))
    (front-below c.args.units g.row.N c.args.limit _ long c.requires are)
