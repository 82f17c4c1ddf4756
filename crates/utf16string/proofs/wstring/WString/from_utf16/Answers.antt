use Rattle.std.proofs.Common.{refl, subst, sym}
use Rattle.std.proofs.lemmas.Result.{err_from_is_err_and}
use Rattle.utf16_units.specs.Encoding.{IsUtf16}
use Rattle.utf16_units.specs.Utf16Error.{IsErrorOf}
use Rattle.utf16string.proofs.wstring.WString.from_utf16.Goals as goal

pub from_utf16_unchecked-requires : goal.from_utf16_unchecked-requires
from_utf16_unchecked-requires g c = subst (IsUtf16 g.E.Utf16Order.BIG) c.deref.ensures.value (c.in_ok-validate_raw_utf16.ensures.ok.0 refl)

pub returns-in_err-validate_raw_utf16-clause-ok : goal.returns-in_err-validate_raw_utf16-clause-ok
returns-in_err-validate_raw_utf16-clause-ok g c =
    rw (err_from_is_err_and c.from_residual.result c.from_residual.ensures.1).1 (rw c.deref.ensures.value at c.in_err-validate_raw_utf16.ensures.ok)

pub returns-in_err-validate_raw_utf16-clause-error : goal.returns-in_err-validate_raw_utf16-clause-error
returns-in_err-validate_raw_utf16-clause-error g c =
    let p = err_from_is_err_and c.from_residual.result c.from_residual.ensures.1 in
    rw p.1 (subst (IsErrorOf g.E.Utf16Order.BIG c.args.buf.items) (sym p.2) (rw c.deref.ensures.value at c.in_err-validate_raw_utf16.ensures.error))
