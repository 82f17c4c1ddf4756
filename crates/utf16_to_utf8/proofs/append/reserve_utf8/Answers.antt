use Rattle.std.proofs.Common.{arith}
use Rattle.utf16_units.specs.Encoding.{text_of}
use Rattle.utf16_units.proofs.BackChar.{size-even}
use Rattle.utf16_units.proofs.EncodingLemmas.{length-text}
use Rattle.utf16_units.proofs.PieceLemmas.{encodes-le-size}
use Rattle.utf16_to_utf8.proofs.append.reserve_utf8.Goals as goal

pub returns-then-raw-capacity-clause-reserved : goal.returns-then-raw-capacity-clause-reserved
returns-then-raw-capacity-clause-reserved g c =
    let text = text_of g.E.Utf16Order.BIG c.args.raw.now in
    omega (arith, encodes-le-size text, size-even text, length-text g.E.Utf16Order.BIG c.args.raw.now c.requires, c.capacity.ensures, c.len.ensures, c.if-raw-capacity.true)
