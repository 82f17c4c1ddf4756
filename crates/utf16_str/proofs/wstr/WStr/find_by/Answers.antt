use Rattle.std.proofs.Common.{subst, ◌∙◌}
use Rattle.utf16_str.proofs.PredicateFinds.{searched-all, searched-found, searched-more, searched-none}
use Rattle.utf16_str.proofs.wstr.WStr.find_by.Goals as goal

pub loop-at-init : goal.loop-at-init
loop-at-init g c = searched-none _ _ _ (c.into_iter-at-iterator.ensures.into_iter_gives ∙ c.char_indices-at-items.ensures.text)

pub loop-at-preserved : goal.loop-at-preserved
loop-at-preserved g c =
    searched-more _ _ _ _ _ _ c.loop-at.invariant c.in-Some.ensures.steps
    (subst (goal.F-post g c.args.predicate.now c.in-Some.c) c.if-predicate.false c.predicate.ensures)

pub returns-then-predicate : goal.returns-then-predicate
returns-then-predicate g c =
    let says = goal.F-post g c.args.predicate.now in record {
      found = searched-found _ _ _ _ _ _ c.loop-at.invariant c.in-Some.ensures.steps
          (subst (says c.in-Some.c) c.if-predicate.true c.predicate.ensures);
    }

pub returns : goal.returns
returns g c = record { found = searched-all _ _ _ c.loop-at.invariant c.in-None.ensures.steps.0 }
