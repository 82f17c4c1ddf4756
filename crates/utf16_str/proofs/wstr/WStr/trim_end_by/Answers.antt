use Rattle.std.proofs.Common.{refl, subst, sym, true, ◌∙◌}
use Rattle.utf16_str.specs.WStr.{wstr_text}
use Rattle.utf16_str.proofs.AffixLemmas.{bytes_before}
use Rattle.utf16_str.proofs.PredicatePassed.{IsPassedBack, passed_back-more, passed_back-none}
use Rattle.utf16_str.proofs.PredicateTrims.{trimmed_back-all, trimmed_back-stop}
use Rattle.utf16_str.proofs.wstr.WStr.trim_end_by.Goals as goal

pub loop-c-init : goal.loop-c-init
loop-c-init g c = record { passed = passed_back-none _ _ _ _ refl; same = c.chars-chars.ensures.text }

pub loop-c-preserved : goal.loop-c-preserved
loop-c-preserved g c =
    let says = goal.F-post g c.args.predicate.now in
    let more = passed_back-more says true _ _ _ c.in-Some.c c.loop-c.invariant.passed (sym c.loop-c.invariant.same ∙ c.in-Some.ensures.steps)
    (subst (says c.in-Some.c) c.if-not-predicate.false c.predicate.ensures) in
    record { passed = subst (IsPassedBack says true (wstr_text c.args.self)) (sym c.as_wstr-front.ensures) more; same = sym c.as_wstr-front.ensures }

pub returns-then-not-predicate-clause-text : goal.returns-then-not-predicate-clause-text
returns-then-not-predicate-clause-text g c =
    let says = goal.F-post g c.args.predicate.now in
    trimmed_back-stop says _ _ _ c.in-Some.c c.loop-c.invariant.passed (sym c.loop-c.invariant.same ∙ c.in-Some.ensures.steps)
    (subst (says c.in-Some.c) c.if-not-predicate.true c.predicate.ensures)

pub returns-then-not-predicate-clause-bytes : goal.returns-then-not-predicate-clause-bytes
returns-then-not-predicate-clause-bytes g c =
    bytes_before _ _ _ c.args.self.well_formed c.loop-c.front.well_formed c.loop-c.invariant.passed.back c.loop-c.invariant.passed.split

pub returns-clause-text : goal.returns-clause-text
returns-clause-text g c = trimmed_back-all _ _ _ c.loop-c.invariant.passed (sym c.loop-c.invariant.same ∙ c.in_default.ensures.steps.0)

pub returns-clause-bytes : goal.returns-clause-bytes
returns-clause-bytes g c =
    bytes_before _ _ _ c.args.self.well_formed c.loop-c.front.well_formed c.loop-c.invariant.passed.back c.loop-c.invariant.passed.split
