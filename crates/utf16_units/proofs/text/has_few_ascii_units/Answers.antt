use Rattle.std.proofs.Common.{arith, refl}
use Rattle.std.proofs.lemmas.Bool.{false≢true}
use Rattle.utf16_units.proofs.AsciiLemmas.{AsciiTo-all, AsciiTo-next, AsciiTo-none, ascii_next, ascii_unit}
use Rattle.utf16_units.proofs.text.has_few_ascii_units.Goals as goal

pub loop-at-init : goal.loop-at-init
loop-at-init g c = AsciiTo-none g.E.Utf16Order.BIG c.args.raw.now

pub returns-then-read_unit-ge128 : goal.returns-then-read_unit-ge128
returns-then-read_unit-ge128 g c =
    let next = ascii_next g.E.Utf16Order.BIG c.args.raw.now c.loop-at.at 2 c.loop-at.invariant refl (omega arith) in
    let one = ascii_unit g.E.Utf16Order.BIG c.args.raw.now c.loop-at.at c.read_unit.result (omega arith) c.read_unit.ensures in
    (λ e. absurd (false≢true e), λ all. absurd (omega (arith, c.if-read_unit-ge128.true, one.0 (next all))))

pub loop-at-preserved : goal.loop-at-preserved
loop-at-preserved g c =
    let one = ascii_unit g.E.Utf16Order.BIG c.args.raw.now c.loop-at.at c.read_unit.result (omega arith) c.read_unit.ensures in
    AsciiTo-next g.E.Utf16Order.BIG c.args.raw.now c.loop-at.at 2 c.loop-at.invariant refl (omega arith) (one.1 (omega (arith, c.if-read_unit-ge128.false)))

pub returns : goal.returns
returns g c = (λ e. AsciiTo-all g.E.Utf16Order.BIG c.args.raw.now c.loop-at.at c.loop-at.invariant (omega arith), λ all. refl)
