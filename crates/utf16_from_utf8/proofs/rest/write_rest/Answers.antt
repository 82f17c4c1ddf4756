use Rattle.std.proofs.Common.{length-take-le, arith}
use Rattle.utf16_from_utf8.proofs.RestLemmas.{rest-written}
use Rattle.utf16_from_utf8.proofs.rest.write_rest.Goals as goal

pub returns-in-Some-clause-written : goal.returns-in-Some-clause-written
returns-in-Some-clause-written g c =
    let begun = c.write_next_threes-begun in
    let len = c.whole_len-len.result in
    let rest = c.in-Some.ensures.written in
    let long = c.write_rest_by-rest.auto.out in
    rest-written g.E.Utf16Order.BIG c.args.bytes.now begun.new.out _ begun.result.read begun.result.written len c.in-Some.end begun.ensures (omega (arith, long, begun.ensures.fits))
    (omega (arith, long, rest.short, length-take-le len c.args.bytes.now c.whole_len-len.ensures.within, c.if-most_left-len.false, c.saturating_sub-most_left.ensures)) (omega (arith, c.if-len-begun.false)) c.whole_len-len.ensures.within rest
