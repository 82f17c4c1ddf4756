use Rattle.std.proofs.Common.{◌≡◌, ◌-◌, ◌≤◌, ℕ, length, None, Some, refl, subst, sym, ◌∙◌, arith}
use Rattle.std.proofs.lemmas.Bool.{false≢true}
use Rattle.memchr.specs.Find.{FindsLastNeedleBy}
use Rattle.utf16_bytes.specs.Occurrence.{IsLast, IsOccurrence}
use Rattle.utf16_bytes.proofs.FoundLemmas.{above_near, last_none, more_none, near_last, passed_back, reach}
use Rattle.utf16_bytes.proofs.backwards.rfind.Given.{Over}
use Rattle.utf16_bytes.proofs.backwards.rfind.Goals as goal
use Rattle.utf16_bytes.proofs.backwards.rfind.Goals.{After-previous_below-below}

-- the pattern occurs nowhere from the offset on below which the search goes on
none_after : (g : Over) (c : After-previous_below-below g) (i : ℕ) → c.previous_below-below.result ≤ i → ¬ (IsOccurrence g.E.Utf16Order.BIG c.args.text.now c.args.pattern.now i)
none_after g c =
    let big = g.E.Utf16Order.BIG in
    let text = c.args.text.now in
    let pattern = c.args.pattern.now in
    let below = c.loop-below.below in
    let end = c.min-end.result in
    let at = c.in_ok-at.at in
    c.previous_below-below.ensures.none big pattern refl (passed_back big text pattern below end (reach (length text) below (length pattern) end (omega arith) c.min-end.ensures)
    c.loop-below.invariant.2 at
    (subst (λ needle. FindsLastNeedleBy text needle end (Some at)) (c.deref.ensures ∙ c.new-finder.ensures ∙ c.new.ensures) c.in_ok-at.ensures)
    (λ here. false≢true (sym c.if-occurs_at.false ∙ c.occurs_at.ensures.1 here)))

pub returns-in_err-at : goal.returns-in_err-at
returns-in_err-at g c =
    let text = c.args.text.now in
    let pattern = c.args.pattern.now in
    let below = c.loop-below.below in
    let end = c.min-end.result in
    record {
      last = subst (IsLast (IsOccurrence g.E.Utf16Order.BIG text pattern)) (sym c.from_residual.ensures)
          (last_none g.E.Utf16Order.BIG text pattern below end (reach (length text) below (length pattern) end (omega arith) c.min-end.ensures) c.loop-below.invariant.2
          (subst (λ needle. FindsLastNeedleBy text needle end None) (c.deref.ensures ∙ c.new-finder.ensures ∙ c.new.ensures) c.in_err-at.ensures));
    }

pub returns-then-occurs_at : goal.returns-then-occurs_at
returns-then-occurs_at g c =
    let text = c.args.text.now in
    let pattern = c.args.pattern.now in
    let below = c.loop-below.below in
    let end = c.min-end.result in
    record {
      last = let at = c.in_ok-at.at in (
        c.occurs_at.ensures.0 c.if-occurs_at.true,
        more_none g.E.Utf16Order.BIG text pattern below end (reach (length text) below (length pattern) end (omega arith) c.min-end.ensures) c.loop-below.invariant.2 at
            (subst (λ needle. FindsLastNeedleBy text needle end (Some at)) (c.deref.ensures ∙ c.new-finder.ensures ∙ c.new.ensures) c.in_ok-at.ensures),
      );
    }

pub returns-in-Some : goal.returns-in-Some
returns-in-Some g c =
    let below = c.previous_below-below.result in
    record { last = near_last g.E.Utf16Order.BIG c.args.text.now c.args.pattern.now below (none_after g (goal.at.returns-in-Some g c).After-previous_below-below) (below - 32) c.in-Some.near c.in-Some.ensures }

pub loop-below-preserved : goal.loop-below-preserved
loop-below-preserved g c =
    let below = c.previous_below-below.result in
    let near = above_near g.E.Utf16Order.BIG c.args.text.now c.args.pattern.now below (none_after g (goal.at.loop-below-preserved g c).After-previous_below-below) (below - 32) c.in_default.ensures in
    (omega (arith, c.in_ok-at.ensures.1.fits), omega (arith, c.previous_below-below.ensures.before), λ i low. near i (omega (arith, low)))
