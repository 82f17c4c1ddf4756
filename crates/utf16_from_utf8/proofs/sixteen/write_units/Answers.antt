use Rattle.std.proofs.Common.{◌≡◌, ◌*◌, ◌/◌, ◌%◌, ◌^◌, ◌++◌, length, length-append, length-take-le, take, ap, ap₂, ◌∙◌, arith}
use Rattle.std.proofs.Math.Nat.{div-mul-le_self}
use Rattle.utf16_from_utf8.specs.Lanes.{kept_pairs, pairs_of}
use Rattle.utf16_from_utf8.proofs.PackLemmas.{kept-after, kept-after-eight, kept_pairs-all}
use Rattle.utf16_from_utf8.proofs.sixteen.write_units.Goals as goal

pub write_eight-requires-clause-space : goal.write_eight-requires-clause-space
write_eight-requires-clause-space g c =
    let from = c.args.from in
    let ended = c.args.units.ended in
    let bits = ended / 2 ^ from * 2 ^ from in
    let first = c.paired.result.0 in
    let start = take c.args.at c.args.out.now in
    let middle = c.write_eight-middle in
    let cleared : bits % 2 ^ 64 % 256 ≡ bits % 256 = omega arith in
    let kept = ap length middle.ensures.pairs ∙ ap (λ n. length (start ++ kept_pairs n first)) cleared ∙ length-append start (kept_pairs (bits % 256) first) in
    omega (
      arith,
      kept,
      kept-after-eight from (ended / 2 ^ from) first c.paired.ensures.first_len,
      length-take-le c.args.at c.args.out.now (omega (arith, c.requires.space)),
      length-take-le middle.result middle.new.out middle.ensures.within,
      middle.auto.out,
      c.requires.space,
    )

pub returns-clause-pairs : goal.returns-clause-pairs
returns-clause-pairs g c =
    let from = c.args.from in
    let ended = c.args.units.ended in
    let bits = ended / 2 ^ from * 2 ^ from in
    let small : bits % 2 ^ 64 ≡ bits = omega (arith, div-mul-le_self ended (2 ^ from), c.requires.bound) in
    kept_pairs-all _ c.paired.result.0 c.paired.result.1 (take c.args.at c.args.out.now) _ _ c.paired.ensures.first_len c.write_eight-middle.ensures.pairs c.write_eight.ensures.pairs
    ∙ ap (λ t. take c.args.at c.args.out.now ++ t) (ap₂ kept_pairs small c.paired.ensures.pairs)

pub returns-clause-written_to : goal.returns-clause-written_to
returns-clause-written_to g c =
    let from = c.args.from in
    let units = c.args.units in
    let pairs = pairs_of g.E.Utf16Order.BIG units.highs units.lows in
    let quotient = units.ended / 2 ^ from in
    let start = take c.args.at c.args.out.now in
    let wrote = ap length (returns-clause-pairs g c) ∙ length-append start (kept_pairs (quotient * 2 ^ from) pairs) in
    let long = length-append c.paired.result.0 c.paired.result.1 in
    omega (
      arith,
      wrote,
      kept-after from quotient pairs,
      ap length c.paired.ensures.pairs,
      long,
      c.paired.ensures.first_len,
      c.paired.ensures.second_len,
      length-take-le c.args.at c.args.out.now (omega (arith, c.requires.space)),
      length-take-le c.write_eight.result c.write_eight.new.out c.write_eight.ensures.within,
    )
