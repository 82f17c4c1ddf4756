use Rattle.std.proofs.Common.{◌≡◌, ◌∙◌, arith, eqb-true, length, sym}
use Rattle.utf16_units.specs.Encoding.{text_of}
use Rattle.utf16_units.proofs.BackChar.{size-even}
use Rattle.utf16_units.proofs.EncodingLemmas.{length-text}
use Rattle.utf16_units.proofs.PieceLemmas.{encodes-le-size}
use Rattle.utf16_to_utf8.proofs.append.to_utf8.Goals as goal
use Rattle.utf16_to_utf8.proofs.append.to_utf8.Goals.{then-is_empty, else-is_empty}

pub write_few-requires-clause-fits : goal.write_few-requires-clause-fits
write_few-requires-clause-fits g c =
    let raw = c.args.raw.now in
    let text = text_of g.E.Utf16Order.BIG raw in
    let three = encodes-le-size text in
    let even = size-even text in
    let long = length-text g.E.Utf16Order.BIG raw c.requires in
    let made = c.in_ok-utf8.ensures in
    elim c.if-is_empty.branch [
      | then-is_empty w ↦
          let none : length raw ≡ 0 = eqb-true (length raw) 0 (sym c.is_empty.ensures ∙ w.if-is_empty.true) in
          omega (arith, none, three, long, made.len)
      | else-is_empty w ↦ omega (arith, w.capacity-is, three, even, long, made.len, made.capacity)
    ]
