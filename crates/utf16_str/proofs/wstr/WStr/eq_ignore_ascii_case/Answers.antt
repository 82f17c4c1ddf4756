use Rattle.std.proofs.Common.{◌∙◌, eqb-true, sym}
use Rattle.std.specs.Char.{to_ascii_lowercase}
use Rattle.utf16_str.proofs.CaseLemmas.{same-start, same-step}
use Rattle.utf16_str.proofs.wstr.WStr.eq_ignore_ascii_case.Goals as goal

pub loop-c-init : goal.loop-c-init
loop-c-init g c =
    same-start to_ascii_lowercase _ _ _ _ (c.into_iter-c-iterator.ensures.into_iter_gives ∙ c.chars-c-items.ensures.text) c.chars-theirs.ensures.text

pub loop-c-preserved : goal.loop-c-preserved
loop-c-preserved g c =
    same-step to_ascii_lowercase _ _ _ c.loop-c.invariant c.in-Some.c c.in-Some-next.d _ _ c.in-Some.ensures.steps c.in-Some-next.ensures.steps
    (eqb-true _ _ (sym c.eq_ignore_ascii_case.ensures ∙ c.if-not-eq_ignore_ascii_case.false))
