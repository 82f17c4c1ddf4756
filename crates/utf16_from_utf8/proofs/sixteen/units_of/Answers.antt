use Rattle.std.proofs.Common.{subst, sym}
use Rattle.utf16_from_utf8.specs.UnitLanes.{HoldUnits}
use Rattle.utf16_from_utf8.proofs.sixteen.units_of.Goals as goal

pub returns-then-this-eq2 : goal.returns-then-this-eq2
returns-then-this-eq2 g c =
    let units = c.units_of_two.result in
    subst (λ n. HoldUnits n c.args.b2 c.args.b1 c.args.block units.highs units.lows units.ended) (sym c.if-this-eq2.true) (c.units_of_two.ensures c.args.b2)

pub returns : goal.returns
returns g c = c.units_of_four.ensures g.row.MOST
