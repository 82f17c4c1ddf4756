use Rattle.std.proofs.Common.{◌-◌, ◌/◌, ◌++◌, ◌∙◌, ap, arith, length, length-drop, refl, replicate, subst}
use Rattle.std.proofs.lemmas.List.{take_rest}
use Rattle.utf16_units.specs.Encoding.{units_of}
use Rattle.utf16_units.specs.Lanes.{Paired}
use Rattle.utf16_units.proofs.PairLemmas.{PairedTo-next}
use Rattle.utf16_fixed.proofs.GreatestLemmas.{ScannedTo-all, ScannedTo-block, ScannedTo-few}
use Rattle.utf16_fixed.proofs.PairedLemmas.{text_from-last}
use Rattle.utf16_fixed.proofs.scan.scan_text.Goals as goal

pub loop-at-init : goal.loop-at-init
loop-at-init g c =
    let plain = c.scan_plain-at.ensures in
    record {
      paired = plain.paired;
      scanned = record { within = plain.paired.within; even = plain.paired.even; scan = plain.scan };
    }

pub with-found-requires : goal.with-found-requires
with-found-requires g c = omega (arith, ScannedTo-few g.E.Utf16Order.BIG c.args.raw.now _ _ _ c.loop-at.invariant.scanned)

pub loop-at-preserved : goal.loop-at-preserved
loop-at-preserved g c =
    let big = g.E.Utf16Order.BIG in
    let raw = c.args.raw.now in
    let units = c.units32-units in
    record {
      paired =
          PairedTo-next big raw c.loop-at.at 64 c.loop-at.leading c.in_ok-leading.leading c.loop-at.invariant.paired refl (omega arith)
          (subst (λ us. Paired c.loop-at.leading us c.in_ok-leading.leading) units.ensures.units c.in_ok-leading.ensures.some);
      scanned = ScannedTo-block big raw c.loop-at.at _ _ c.loop-at.invariant.scanned units.result _ _ c.with-found.ensures (omega arith) units.ensures.units;
    }

pub with-requires : goal.with-requires
with-requires g c = omega (arith, ScannedTo-few g.E.Utf16Order.BIG c.args.raw.now _ _ _ c.loop-at.invariant.scanned)

pub returns-clause-text : goal.returns-clause-text
returns-clause-text g c =
    let big = g.E.Utf16Order.BIG in
    let raw = c.args.raw.now in
    let last = c.filled_units-last.ensures.units ∙ ap (λ rest. units_of big rest ++ replicate (32 - length rest / 2) 0) (take_rest raw c.loop-at.at) in
    text_from-last big raw c.loop-at.at _ c.loop-at.leading c.in_ok-paired.field-0 c.type_inv.raw c.loop-at.invariant.paired (omega arith)
    (omega (arith, length-drop c.loop-at.at raw)) (subst (λ us. Paired c.loop-at.leading us c.in_ok-paired.field-0) last c.in_ok-paired.ensures.some)

pub returns-clause-scan : goal.returns-clause-scan
returns-clause-scan g c =
    let big = g.E.Utf16Order.BIG in
    let raw = c.args.raw.now in
    ScannedTo-all big raw c.loop-at.at _ _ c.loop-at.invariant.scanned c.filled_units-last.result _ _ c.with.ensures _
    (c.filled_units-last.ensures.units ∙ ap (λ rest. units_of big rest ++ replicate (32 - length rest / 2) 0) (take_rest raw c.loop-at.at))
