use Rattle.std.proofs.Common.{◌≡◌, ◌+◌, false, subst, arith}
use Rattle.std.proofs.lemmas.Bool.{and_parts}
use Rattle.utf16_units.specs.Lanes.{PairedTo}
use Rattle.utf16_units.proofs.PlainLemmas.{PairedTo-plain}
use Rattle.utf16_units.proofs.validate.plain_pairs.Goals as goal

pub loop-at-preserved : goal.loop-at-preserved
loop-at-preserved g c =
    let big = g.E.Utf16Order.BIG in
    let raw = c.args.raw.now in
    let at = c.loop-at.at in
    let both = and_parts _ _ c.if-is_plain.true in
    let first = PairedTo-plain big raw at c.loop-at.invariant.0 (omega arith) (c.is_plain.ensures both.0) in
    let second = PairedTo-plain big raw (at + 64) first (omega arith) (c.is_plain-in-loop-at.ensures both.1) in
    let same : at + 64 + 64 ≡ at + 128 = omega arith in
    (subst (λ end. PairedTo big raw end false) same second, omega arith)
