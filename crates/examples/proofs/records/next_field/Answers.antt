use Rattle.std.proofs.Common.{◌≡◌, ◌++◌, arith, drop, false}
use Rattle.std.proofs.lemmas.Grind.{common_steps}
use Rattle.utf16_units.proofs.FirstUnit.{counted_text}
use Rattle.utf16string.specs.WStr.{wstr_text}
use Rattle.examples.proofs.records.next_field.Goals as goal

pub returns-in-Ok-clause-field : goal.returns-in-Ok-clause-field
returns-in-Ok-clause-field g c =
    let after : c.split_at.result.0.now ++ c.split_at.result.1.now ≡ drop 2 c.args.bytes.now = grind (arith, common_steps, c.split_at.ensures.front, c.split_at.ensures.back) in
    counted_text false g.E.Utf16Order.BIG c.args.bytes.now (wstr_text c.in-Ok.field) c.split_at.result.0.now c.split_at.result.1.now
    (λ k. omega (arith, c.type_inv.bytes k)) (omega arith) after (omega arith) c.in-Ok.ensures.encoding
