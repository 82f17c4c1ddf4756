use Rattle.std.proofs.Common.{◌++◌, ◌∙◌, ap, arith}
use Rattle.std.proofs.lemmas.Result.{err_from_is_err_and}
use Rattle.utf16_units.specs.Encoding.{size}
use Rattle.utf16_units.proofs.EncodingLemmas.{size-nil}
use Rattle.utf16string.specs.WString.{view_texts}
use Rattle.utf16string.proofs.wstring.extends.WStringFromIteratorWStr.from_iter.Goals as goal

pub returns-clause-ran : goal.returns-clause-ran
returns-clause-ran g c =
    let ran = c.in_ok-extend.ensures.ran in
    (ran.0, ran.1, ran.2, ran.4, ran.3 ∙ ap (λ t. t ++ view_texts ran.1) c.new-text.ensures.text)

pub returns-in_err-extend-clause-err : goal.returns-in_err-extend-clause-err
returns-in_err-extend-clause-err g c =
    let m = c.in_err-extend.ensures.err in
    let held = c.extend.new.self.raw.ok in
    rw (err_from_is_err_and c.from_residual.result c.from_residual.ensures.1).1
    (m.0, m.1, (m.2.0, m.2.1, m.2.2, m.2.3, λ none. absurd (omega (arith, m.2.5, ap size none, size-nil, held))))
