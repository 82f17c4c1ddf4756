use Rattle.std.proofs.Common.{arith, subst}
use Rattle.utf16_units.specs.Lanes.{HasNoSurrogate}
use Rattle.utf16_units.proofs.PairLemmas.{PairedTo-none}
use Rattle.utf16_units.proofs.PlainLemmas.{PairedTo-plain}
use Rattle.utf16_fixed.proofs.GreatestLemmas.{ScannedTo-block, ScannedTo-none}
use Rattle.utf16_fixed.proofs.scan.scan_plain.Goals as goal

pub loop-at-init : goal.loop-at-init
loop-at-init g c = record {
  paired = PairedTo-none g.E.Utf16Order.BIG c.args.raw.now;
  scanned = ScannedTo-none g.E.Utf16Order.BIG c.args.raw.now _ _ c.none-found.ensures;
}

pub loop-at-preserved : goal.loop-at-preserved
loop-at-preserved g c =
    let big = g.E.Utf16Order.BIG in
    let raw = c.args.raw.now in
    let units = c.units32-units in
    let kept = c.loop-at.invariant in
    record {
      paired =
          PairedTo-plain big raw c.loop-at.at kept.paired (omega arith)
          (subst HasNoSurrogate units.ensures.units (c.has_no_surrogate.ensures.0 c.if-not-has_no_surrogate.false));
      scanned = ScannedTo-block big raw c.loop-at.at _ _ kept.scanned units.result _ _ c.with_plain-found.ensures (omega arith) units.ensures.units;
    }
