use Rattle.std.proofs.Common.{All, ◌<◌, arith, length, length-take-le, ap, subst, sym}
use Rattle.utf16_units.proofs.BackChar.{length-even}
use Rattle.utf16_units.proofs.UnitsUpTo.{length-units_of}
use Rattle.utf16_transcode.proofs.AsciiLemmas.{ascii_input}
use Rattle.utf16_transcode.proofs.decode.ToUtf8Direction.begin.Goals as goal

pub returns-clause-few_ascii : goal.returns-clause-few_ascii
returns-clause-few_ascii g c text low is few space =
    let big = g.E.Utf16Order.BIG in
    let raw = c.args.input.now in
    let input = ascii_input big raw text low is in
    let even = length-even big raw input.0 in
    let long = ap length input.1 in
    let half = length-units_of big raw in
    let start = c.write_ascii_start-ascii.ensures.short (omega (arith, even, long, half, few)) in
    let units = c.write_few_units-few in
    let whole = units.ensures.ascii (subst (All (λ unit. unit < 0x80)) (sym input.1) low) (omega (arith, start, even, long, half, few)) (omega (arith, start, even, long, half, space)) in
    let front = units.ensures.wrote in
    let last = length-even big _ front.gives.0 in
    omega (arith, whole, even, last, length-take-le units.result.read raw front.within, c.write_short_rest.ensures.more, c.write_short_rest.ensures.wrote.within)
