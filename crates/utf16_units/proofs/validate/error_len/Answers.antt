use Rattle.std.proofs.Common.{◌++◌, ◌∙◌, ap, drop, sym, take-append-drop}
use Rattle.utf16_units.proofs.validate.error_len.Goals as goal

pub returns-in-Ok : goal.returns-in-Ok
returns-in-Ok g c none =
    let rest = c.args.rest.now in
    let char = c.in-Ok.ensures.char in
    absurd (none char.char (drop c.in-Ok.field-0 rest) char.scalar (sym (take-append-drop c.in-Ok.field-0 rest) ∙ ap (λ front. front ++ drop c.in-Ok.field-0 rest) char.spelled))
