use Rattle.std.proofs.Common.{refl, subst, sym, true, ◌∙◌}
use Rattle.utf16_str.specs.WStr.{wstr_text}
use Rattle.utf16_str.proofs.AffixLemmas.{bytes_left}
use Rattle.utf16_str.proofs.PredicatePassed.{IsPassed, passed-more, passed-none}
use Rattle.utf16_str.proofs.PredicateTrims.{trimmed-all, trimmed-stop}
use Rattle.utf16_str.proofs.wstr.WStr.trim_start_by.Goals as goal

pub loop-c-init : goal.loop-c-init
loop-c-init g c = record { passed = passed-none _ _ _ _ refl; same = c.chars-chars.ensures.text }

pub loop-c-preserved : goal.loop-c-preserved
loop-c-preserved g c =
    let says = goal.F-post g c.args.predicate.now in
    let more = passed-more says true _ _ c.in-Some.c _ c.loop-c.invariant.passed (sym c.loop-c.invariant.same ∙ c.in-Some.ensures.steps)
    (subst (says c.in-Some.c) c.if-not-predicate.false c.predicate.ensures) in
    record { passed = subst (IsPassed says true (wstr_text c.args.self)) (sym c.as_wstr-rest.ensures) more; same = sym c.as_wstr-rest.ensures }

pub returns-then-not-predicate-clause-text : goal.returns-then-not-predicate-clause-text
returns-then-not-predicate-clause-text g c =
    let says = goal.F-post g c.args.predicate.now in
    trimmed-stop says _ _ c.in-Some.c _ c.loop-c.invariant.passed (sym c.loop-c.invariant.same ∙ c.in-Some.ensures.steps)
    (subst (says c.in-Some.c) c.if-not-predicate.true c.predicate.ensures)

pub returns-then-not-predicate-clause-bytes : goal.returns-then-not-predicate-clause-bytes
returns-then-not-predicate-clause-bytes g c =
    bytes_left _ _ _ c.args.self.well_formed c.loop-c.rest.well_formed c.loop-c.invariant.passed.front c.loop-c.invariant.passed.split

pub returns-clause-text : goal.returns-clause-text
returns-clause-text g c = trimmed-all _ _ _ c.loop-c.invariant.passed (sym c.loop-c.invariant.same ∙ c.in_default.ensures.steps.0)

pub returns-clause-bytes : goal.returns-clause-bytes
returns-clause-bytes g c =
    bytes_left _ _ _ c.args.self.well_formed c.loop-c.rest.well_formed c.loop-c.invariant.passed.front c.loop-c.invariant.passed.split
