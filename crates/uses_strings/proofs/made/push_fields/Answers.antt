use Rattle.std.proofs.Common.{Some, ◌++◌, ◌∙◌, ap, length}
use Rattle.utf16string.specs.WStr.{wstr_text}
use Rattle.utf16string.specs.WString.{wstring_text}
use Rattle.uses_strings.proofs.Fronts.{err_so, texts_given}
use Rattle.uses_strings.proofs.made.push_fields.Goals as goal

pub returns-clause-err : goal.returns-clause-err
returns-clause-err g c =
    err_so c.extend.result c.extend.ensures.err
    (λ full. let stop = full.2 in
    (length stop.0, stop.4 ∙ ap (λ t. wstring_text c.args.string.now ++ t) (texts_given wstr_text full.0 _ stop.0 stop.2 (Some stop.1) (full.1 ∙ c.split.ensures.parts) stop.3)))
