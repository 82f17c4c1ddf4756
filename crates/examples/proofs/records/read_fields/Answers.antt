use Rattle.std.proofs.Common.{[], ◌∷◌, ◌++◌, ap, arith, length, map}
use Rattle.std.proofs.lemmas.Grind.{common_steps, flat_map-append}
use Rattle.std.proofs.lemmas.Result.{err_from_is_err_and}
use Rattle.utf16string.proofs.Views.{scalar_texts}
use Rattle.utf16string.specs.WStr.{wstr_text}
use Rattle.examples.proofs.records.read_fields.Goals as goal

pub loop-field-preserved : goal.loop-field-preserved
loop-field-preserved g c =
    let given = rw c.in_ok-field.was at c.in-Some.ensures.steps in (
      record { scalars = scalar_texts c.push.new.self.items; spelled = rw c.in_ok-push.ensures.items (grind (arith, common_steps, flat_map-append, given.0, c.loop-field.invariant.0.spelled)) },
      rw c.in_ok-push.ensures.items (grind (arith, common_steps, flat_map-append, given.1, c.loop-field.invariant.1)),
    )

pub returns-in_err-push-clause-error : goal.returns-in_err-push-clause-error
returns-in_err-push-clause-error g c =
    let p = err_from_is_err_and c.from_residual-in_err-push.result c.from_residual-in_err-push.ensures.1 in
    let items = c.loop-field.fields.items ++ c.in_ok-field.field-0 ∷ [] in
    rw (p.1, p.2) (map wstr_text items, c.next.new.self.rest.now, (λ none. grind (arith, common_steps, ap length none)), record { scalars = scalar_texts items; spelled = grind (arith, common_steps, flat_map-append, (rw c.in_ok-field.was at c.in-Some.ensures.steps), c.loop-field.invariant.0.spelled) })
