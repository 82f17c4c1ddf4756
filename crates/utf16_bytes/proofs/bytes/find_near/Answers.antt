use Rattle.std.proofs.Common.{⊎_elim, ◌≡◌, ◌<◌, ◌≤◌, subst, sym, ◌∙◌, arith}
use Rattle.std.proofs.lemmas.Bool.{cases_lt, false≢true}
use Rattle.utf16_bytes.specs.Occurrence.{IsOccurrence}
use Rattle.utf16_bytes.proofs.bytes.find_near.Goals as goal

pub loop-at-preserved : goal.loop-at-preserved
loop-at-preserved g c i low less o = ⊎_elim
    (λ (before : i < c.loop-at.at). c.loop-at.invariant i low before o)
    (λ (not_before : c.loop-at.at ≤ i).
    let same : i ≡ c.loop-at.at = omega (arith, less, not_before) in
    false≢true (sym c.if-occurs_at.false ∙ c.occurs_at.ensures.1 (subst (IsOccurrence g.E.Utf16Order.BIG c.args.text.now c.args.pattern.now) same o)))
    (cases_lt i c.loop-at.at)
