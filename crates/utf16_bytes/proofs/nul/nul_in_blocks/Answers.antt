use Rattle.std.proofs.Common.{◌-◌, length, drop, arith}
use Rattle.std.proofs.lemmas.List.{take-take}
use Rattle.utf16_bytes.proofs.NulLemmas.{LacksNulTo-front, LacksNulTo-next, LacksNulTo-none, nul-next}
use Rattle.utf16_bytes.proofs.nul.nul_in_blocks.Goals as goal

pub loop-at-init : goal.loop-at-init
loop-at-init c = LacksNulTo-none c.args.units.now

pub returns-then-nul-lt-BLOCK : goal.returns-then-nul-lt-BLOCK
returns-then-nul-lt-BLOCK c =
    let units = c.args.units.now in
    let at = c.loop-at.at in
    let to = c.loop-at.invariant in
    nul-next units at 64 c.nul_in_block-nul.result _ (take-take 64 (length units - at) (drop at units) c.loop-at-test.true) to (omega (arith, c.loop-at-test.true, to.within)) c.nul_in_block-nul.ensures
    (λ less. c.if-nul-lt-BLOCK.true)

pub loop-at-preserved : goal.loop-at-preserved
loop-at-preserved c =
    let units = c.args.units.now in
    let at = c.loop-at.at in
    let to = c.loop-at.invariant in
    LacksNulTo-next units at 64 c.nul_in_block-nul.result _ (take-take 64 (length units - at) (drop at units) c.loop-at-test.true) to (omega (arith, c.loop-at-test.true, to.within)) c.nul_in_block-nul.ensures
    (omega (arith, c.if-nul-lt-BLOCK.false)) (omega arith)

pub returns-then-nul-lt-SMALL_BLOCK : goal.returns-then-nul-lt-SMALL_BLOCK
returns-then-nul-lt-SMALL_BLOCK c =
    let units = c.args.units.now in
    let at = c.loop-at-2.at in
    let to = c.loop-at-2.invariant in
    nul-next units at 16 c.nul_in_small_block-nul.result _ (take-take 16 (length units - at) (drop at units) (omega (arith, c.loop-at-2-test.true))) to (omega (arith, c.loop-at-2-test.true, to.within)) c.nul_in_small_block-nul.ensures
    (λ less. c.if-nul-lt-SMALL_BLOCK.true)

pub loop-at-2-preserved : goal.loop-at-2-preserved
loop-at-2-preserved c =
    let units = c.args.units.now in
    let at = c.loop-at-2.at in
    let to = c.loop-at-2.invariant in
    LacksNulTo-next units at 16 c.nul_in_small_block-nul.result _ (take-take 16 (length units - at) (drop at units) (omega (arith, c.loop-at-2-test.true))) to (omega (arith, c.loop-at-2-test.true, to.within)) c.nul_in_small_block-nul.ensures
    (omega (arith, c.if-nul-lt-SMALL_BLOCK.false)) (omega arith)

pub returns : goal.returns
returns c =
    let units = c.args.units.now in
    let last = length units - 16 in
    let to = LacksNulTo-front units c.loop-at-2.at last c.loop-at-2.invariant (omega (arith, c.loop-at-2-test.false, c.loop-at-2.invariant.within)) (omega (arith, c.requires.even, c.requires.many)) in
    nul-next units last 16 c.nul_in_small_block.result _ (take-take 16 (length units - last) (drop last units) (omega (arith, c.requires.many))) to (omega (arith, c.requires.many)) c.nul_in_small_block.ensures
    (λ less. omega (arith, less, c.requires.many))
