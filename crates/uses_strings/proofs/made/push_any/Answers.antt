use Rattle.std.proofs.Common.{Some, drop, length, ◌∙◌}
use Rattle.utf16string.specs.WStr.{wstr_text}
use Rattle.uses_strings.proofs.Fronts.{err_so, front_given}
use Rattle.uses_strings.proofs.made.push_any.Goals as goal

pub returns-clause-err : goal.returns-clause-err
returns-clause-err g c =
    err_so c.extend.result c.extend.ensures.err
    (λ full. (full.1, drop (length full.1) (wstr_text c.args.text), front_given _ _ _ full.3 (Some full.2) (full.4 ∙ c.chars.ensures.text) full.5, full.6))
