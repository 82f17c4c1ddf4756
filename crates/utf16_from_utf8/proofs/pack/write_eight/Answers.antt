use Rattle.std.proofs.Common.{◌++◌, take, ap, ◌∙◌, arith}
use Rattle.std.proofs.lemmas.Simd.{length-swz_l, swz_l}
use mir.Syntax.{w8}
use Rattle.utf16_from_utf8.proofs.PackLemmas.{packed, positions-fit, stored_front}
use Rattle.utf16_from_utf8.proofs.pack.write_eight.Goals as goal

pub swizzle : goal.swizzle
swizzle c = positions-fit c.args.bits c.positions.result c.positions.ensures

pub returns-clause-pairs : goal.returns-clause-pairs
returns-clause-pairs c =
    let is = c.positions.ensures in
    let v = swz_l w8 16 c.args.pairs 0 c.positions.result in
    let long = length-swz_l w8 16 c.args.pairs 0 c.positions.result in
    stored_front c.args.at _ c.args.out.now v (omega (arith, long, is.len, is.few)) (omega (arith, long, is.len, c.requires.space))
    ∙ ap (λ t. take c.args.at c.args.out.now ++ t) (packed c.args.pairs c.positions.result c.args.bits c.fits-pairs.0 is)

pub returns-clause-written_to : goal.returns-clause-written_to
returns-clause-written_to c = omega (arith, c.positions.ensures.few)
