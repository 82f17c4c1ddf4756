use Rattle.std.proofs.Common.{◌≡◌, ◌∙◌, [], ap, arith, length, eqb-true, rules}
use Rattle.std.proofs.lemmas.Grind.{common_steps}
use Rattle.std.proofs.lemmas.List.{nil_from_length}
use Rattle.utf16_units.specs.Encoding.{text_of}
use Rattle.utf16_units.proofs.BoundaryLemmas.{length-le-size}
use Rattle.utf16_units.proofs.EncodingLemmas.{length-text, text_of-nil}
use Rattle.utf16_units.proofs.text.count_few.Goals as goal

pub overflow_add-count : goal.overflow_add-count
overflow_add-count g c =
    let big = g.E.Utf16Order.BIG in
    let raw = c.args.raw.now in
    omega (arith, c.loop-rest.invariant.counted, length-le-size (text_of big raw), length-text big raw c.requires)

pub returns : goal.returns
returns g c =
    let big = g.E.Utf16Order.BIG in
    let rest = c.loop-rest.rest.now in
    let none : rest ≡ [] = nil_from_length rest (eqb-true (length rest) 0 (search rules)) in
    omega (arith, c.loop-rest.invariant.counted, ap length (ap (text_of big) none ∙ text_of-nil big))

pub loop-rest-preserved : goal.loop-rest-preserved
loop-rest-preserved g c = grind (arith, common_steps)
