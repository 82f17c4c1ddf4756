use Rattle.std.proofs.Common.{arith}
use Rattle.utf16_bytes.proofs.NulLemmas.{LacksNulTo-none, LacksNulTo-unit, nul-unit}
use Rattle.utf16_bytes.proofs.nul.nul_in_few.Goals as goal

pub loop-at-init : goal.loop-at-init
loop-at-init c = LacksNulTo-none c.args.units.now

pub loop-at-preserved : goal.loop-at-preserved
loop-at-preserved c =
    let to = c.loop-at.invariant in
    LacksNulTo-unit c.args.units.now c.loop-at.at c.read_unit.result to (omega (arith, to.even, c.requires, c.loop-at-test.true)) c.read_unit.ensures c.if-read_unit-eq0.false

pub returns-then-read_unit-eq0 : goal.returns-then-read_unit-eq0
returns-then-read_unit-eq0 c =
    let to = c.loop-at.invariant in
    nul-unit c.args.units.now c.loop-at.at c.read_unit.result to (omega (arith, to.even, c.requires, c.loop-at-test.true)) c.read_unit.ensures c.if-read_unit-eq0.true
