use Rattle.std.proofs.Common.{rules, subst, sym}
use Rattle.std.proofs.lemmas.Result.{err_from_is_err_and}
use Rattle.utf16_units.specs.Utf16Error.{IsErrorOf}
use Rattle.utf16_str.proofs.wstr.WStr.from_utf16.Goals as goal

pub from_utf16_unchecked-requires : goal.from_utf16_unchecked-requires
from_utf16_unchecked-requires g c = search rules

pub returns-in_err-validate_raw_utf16-clause-ok : goal.returns-in_err-validate_raw_utf16-clause-ok
returns-in_err-validate_raw_utf16-clause-ok g c =
    rw (err_from_is_err_and c.from_residual.result c.from_residual.ensures.1).1 c.in_err-validate_raw_utf16.ensures.ok

pub returns-in_err-validate_raw_utf16-clause-error : goal.returns-in_err-validate_raw_utf16-clause-error
returns-in_err-validate_raw_utf16-clause-error g c =
    let p = err_from_is_err_and c.from_residual.result c.from_residual.ensures.1 in
    rw p.1 (subst (IsErrorOf g.E.Utf16Order.BIG c.args.raw.now) (sym p.2) c.in_err-validate_raw_utf16.ensures.error)
