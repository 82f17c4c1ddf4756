use Rattle.std.proofs.lemmas.Result.{err_from_is_err_and}
use Rattle.utf16string.proofs.wstring.extends.WStringFromIteratorChar.from_iter.Goals as goal

pub returns-in_err-extend-clause-err : goal.returns-in_err-extend-clause-err
returns-in_err-extend-clause-err g c =
    let m = c.in_err-extend.ensures.err in
    rw (err_from_is_err_and c.from_residual.result c.from_residual.ensures.1).1 (m.0, m.1, m.2, m.3, m.4, m.5)
