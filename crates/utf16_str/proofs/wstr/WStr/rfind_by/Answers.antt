use Rattle.std.proofs.Common.{ap, subst, ◌∙◌}
use Rattle.utf16_units.specs.Encoding.{size}
use Rattle.utf16_str.proofs.PredicateCuts.{found-back}
use Rattle.utf16_str.proofs.PredicatePassed.{passed_back-all, passed_back-more, passed_back-none}
use Rattle.utf16_str.proofs.wstr.WStr.rfind_by.Goals as goal

pub loop-c-init : goal.loop-c-init
loop-c-init g c = passed_back-none _ _ _ _ c.chars-chars.ensures.text

pub loop-c-preserved : goal.loop-c-preserved
loop-c-preserved g c =
    passed_back-more _ _ _ _ _ _ c.loop-c.invariant c.in-Some.ensures.steps
    (subst (goal.F-post g c.args.predicate.now c.in-Some.c) c.if-predicate.false c.predicate.ensures)

pub returns-then-predicate : goal.returns-then-predicate
returns-then-predicate g c =
    let says = goal.F-post g c.args.predicate.now in record {
      found = found-back _ _ _ _ _ _ c.loop-c.invariant c.in-Some.ensures.steps (c.len.ensures.size ∙ ap size c.as_wstr.ensures)
          (subst (says c.in-Some.c) c.if-predicate.true c.predicate.ensures);
    }

pub returns : goal.returns
returns g c = record { found = passed_back-all _ _ _ _ c.loop-c.invariant c.in_default.ensures.steps.0 }
