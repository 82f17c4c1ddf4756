use Rattle.std.proofs.Common.{◌+◌, ◌<◌, ℕ, None, Some, refl, subst, sym, ◌∙◌, arith}
use Rattle.std.proofs.lemmas.Bool.{false≢true}
use Rattle.memchr.specs.Find.{FindsNeedle}
use Rattle.utf16_bytes.specs.Occurrence.{IsFirst, IsOccurrence}
use Rattle.utf16_bytes.proofs.FoundLemmas.{below_near, first_none, less_none, near_first, passed}
use Rattle.utf16_bytes.proofs.forwards.find.Given.{Over}
use Rattle.utf16_bytes.proofs.forwards.find.Goals as goal
use Rattle.utf16_bytes.proofs.forwards.find.Goals.{After-next_start-start}

-- the pattern occurs nowhere before the offset at which the search goes on
none_before : (g : Over) (c : After-next_start-start g) (i : ℕ) → i < c.next_start-start.result → ¬ (IsOccurrence g.E.Utf16Order.BIG c.args.text.now c.args.pattern.now i)
none_before g c =
    let big = g.E.Utf16Order.BIG in
    let text = c.args.text.now in
    let pattern = c.args.pattern.now in
    let start = c.loop-start.start in
    let at = c.in_ok-at.at in
    c.next_start-start.ensures.none big pattern refl (passed big text pattern start c.loop-start.invariant.1 at
    (subst (λ needle. FindsNeedle text needle start (Some at)) (c.deref.ensures ∙ c.new-finder.ensures ∙ c.new.ensures) c.in_ok-at.ensures)
    (λ here. false≢true (sym c.if-occurs_at.false ∙ c.occurs_at.ensures.1 here)))

pub returns-in_err-at : goal.returns-in_err-at
returns-in_err-at g c =
    let big = g.E.Utf16Order.BIG in
    let text = c.args.text.now in
    let start = c.loop-start.start in
    record {
      first = subst (IsFirst (IsOccurrence big text c.args.pattern.now)) (sym c.from_residual.ensures)
          (first_none big text c.args.pattern.now start c.loop-start.invariant.1
          (subst (λ pattern. FindsNeedle text pattern start None) (c.deref.ensures ∙ c.new-finder.ensures ∙ c.new.ensures) c.in_err-at.ensures));
    }

pub returns-then-occurs_at : goal.returns-then-occurs_at
returns-then-occurs_at g c =
    let text = c.args.text.now in
    let start = c.loop-start.start in
    record {
      first = let at = c.in_ok-at.at in (
        c.occurs_at.ensures.0 c.if-occurs_at.true,
        less_none g.E.Utf16Order.BIG text c.args.pattern.now start c.loop-start.invariant.1 at
            (subst (λ pattern. FindsNeedle text pattern start (Some at)) (c.deref.ensures ∙ c.new-finder.ensures ∙ c.new.ensures) c.in_ok-at.ensures),
      );
    }

pub returns-in-Some : goal.returns-in-Some
returns-in-Some g c =
    let start = c.next_start-start.result in
    record { first = near_first g.E.Utf16Order.BIG c.args.text.now c.args.pattern.now start (none_before g (goal.at.returns-in-Some g c).After-next_start-start) (start + 32) c.in-Some.near c.in-Some.ensures }

pub loop-start-preserved : goal.loop-start-preserved
loop-start-preserved g c =
    let start = c.next_start-start.result in (
      omega (arith, c.next_start-start.ensures.after),
      below_near g.E.Utf16Order.BIG c.args.text.now c.args.pattern.now start (none_before g (goal.at.loop-start-preserved g c).After-next_start-start) (start + 32) c.in_default.ensures,
    )
