use Rattle.std.proofs.Common.{arith}
use Rattle.utf16_units.proofs.PlainLemmas.{IsUtf16-plain, no_surrogate-one}
use Rattle.utf16_units.proofs.plain.is_short_plain.Goals as goal

pub returns-then-raw-eq2-clause-plain : goal.returns-then-raw-eq2-clause-plain
returns-then-raw-eq2-clause-plain g c =
    let one = no_surrogate-one g.E.Utf16Order.BIG c.args.raw.now c.if-raw-eq2.true in
    ((λ pass. (omega arith, omega arith, one.0 (c.is_no_surrogate.ensures.0 pass))), (λ is. c.is_no_surrogate.ensures.1 (one.1 is.2)))

pub returns-then-raw-eq2-clause-text : goal.returns-then-raw-eq2-clause-text
returns-then-raw-eq2-clause-text g c pass = IsUtf16-plain g.E.Utf16Order.BIG c.args.raw.now c.type_inv.raw (omega arith) ((no_surrogate-one g.E.Utf16Order.BIG c.args.raw.now c.if-raw-eq2.true).0 (c.is_no_surrogate.ensures.0 pass))

pub returns-then-raw-lt8-clause-text : goal.returns-then-raw-lt8-clause-text
returns-then-raw-lt8-clause-text g c pass =
    let plain = c.is_plain_few.ensures.0 pass in
    IsUtf16-plain g.E.Utf16Order.BIG c.args.raw.now c.type_inv.raw plain.0 plain.1

pub returns-then-raw-eq0-clause-text : goal.returns-then-raw-eq0-clause-text
returns-then-raw-eq0-clause-text g c pass = IsUtf16-plain g.E.Utf16Order.BIG c.args.raw.now c.type_inv.raw c.if-raw-eq0.true (c.has_no_surrogate_short.ensures.0 pass)
