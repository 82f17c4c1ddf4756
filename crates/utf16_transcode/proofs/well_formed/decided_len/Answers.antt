use Rattle.std.proofs.Common.{◌∙◌, arith, refl, subst, sym, true≢false}
use Rattle.utf16_units.specs.Unit.{IsLeading}
use Rattle.utf16_transcode.proofs.DecidedLemmas.{leading_tail, no_unit_tail, whole_unit_tail}
use Rattle.utf16_transcode.proofs.well_formed.decided_len.Goals as goal
use Rattle.utf16_transcode.proofs.well_formed.decided_len.Goals.{else-whole-gt0-via-then-whole-gt0+else-is_leading_surrogate, else-whole-gt0-via-else-whole-gt0}

pub returns-then-is_leading_surrogate-clause-len : goal.returns-then-is_leading_surrogate-clause-len
returns-then-is_leading_surrogate-clause-len g c =
    leading_tail g.E.Utf16Order.BIG c.args.raw.now _ refl c.if-whole-gt0.true
    (subst IsLeading c.read_unit.ensures (c.is_leading_surrogate.ensures.0 c.if-is_leading_surrogate.true))

pub returns-else-whole-gt0-clause-len : goal.returns-else-whole-gt0-clause-len
returns-else-whole-gt0-clause-len g c = elim c.else-whole-gt0.branch [
  | else-whole-gt0-via-then-whole-gt0+else-is_leading_surrogate w ↦
      whole_unit_tail g.E.Utf16Order.BIG c.args.raw.now _ refl w.if-whole-gt0.true
      (λ l. true≢false (sym (w.is_leading_surrogate.ensures.1 (subst IsLeading (sym w.read_unit.ensures) l)) ∙ w.if-is_leading_surrogate.false))
  | else-whole-gt0-via-else-whole-gt0 w ↦ no_unit_tail g.E.Utf16Order.BIG c.args.raw.now _ refl (omega (arith, w.if-whole-gt0.false))
]
