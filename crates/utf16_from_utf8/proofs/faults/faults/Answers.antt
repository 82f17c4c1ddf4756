use Rattle.std.proofs.Common.{arith}
use Rattle.utf16_from_utf8.proofs.LimitLemmas.{limit-three, limit-two}
use Rattle.utf16_from_utf8.proofs.faults.faults.Goals as goal

pub returns-then-this-eq2 : goal.returns-then-this-eq2
returns-then-this-eq2 g c i below p q r s =
    let limit = limit-two g.row.MOST c.if-this-eq2.true in
    c.faults_of_two.ensures i _ _ below (omega (arith, p, limit)) (omega (arith, q, limit)) (omega (arith, r, limit)) (omega (arith, s, limit))

pub returns-then-this-eq3 : goal.returns-then-this-eq3
returns-then-this-eq3 g c i below p q r s =
    let limit = limit-three g.row.MOST c.if-this-eq3.true in
    c.faults_of_three.ensures i _ below (omega (arith, p, limit)) (omega (arith, q, limit)) (omega (arith, r, limit)) (omega (arith, s, limit))
