use Rattle.std.proofs.Common.{⊎_elim, ◌≡◌, ◌-◌, ◌<◌, ◌≤◌, subst, sym, ◌∙◌, arith}
use Rattle.std.proofs.lemmas.Bool.{cases_lt, false≢true}
use Rattle.utf16_bytes.specs.Occurrence.{IsOccurrence}
use Rattle.utf16_bytes.proofs.bytes.rfind_near.Goals as goal

pub returns-then-occurs_at : goal.returns-then-occurs_at
returns-then-occurs_at g c = (
  record {
    low = omega arith;
    high = omega arith;
    after = λ i low less. c.loop-at.invariant.2 i (omega (arith, low)) less;
  },
  c.occurs_at.ensures.0 c.if-occurs_at.true,
)

pub loop-at-preserved : goal.loop-at-preserved
loop-at-preserved g c = (
  omega arith,
  omega arith,
  λ i low less o. ⊎_elim
      (λ (after : c.loop-at.at - 1 < i). c.loop-at.invariant.2 i (omega (arith, after)) less o)
      (λ (not_after : i ≤ c.loop-at.at - 1).
      let same : i ≡ c.loop-at.at - 1 = omega (arith, low, not_after) in
      false≢true (sym c.if-occurs_at.false ∙ c.occurs_at.ensures.1 (subst (IsOccurrence g.E.Utf16Order.BIG c.args.text.now c.args.pattern.now) same o)))
      (cases_lt (c.loop-at.at - 1) i),
)
