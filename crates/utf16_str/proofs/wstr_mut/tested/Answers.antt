use Rattle.std.proofs.Common.{refl}
use Rattle.utf16_str.proofs.wstr_mut.tested.Goals as goal

pub returns-clause-ok : goal.returns-clause-ok
returns-clause-ok g c = c.validate_raw_utf16-tested.ensures.ok

pub returns-clause-error : goal.returns-clause-error
returns-clause-error g c = c.validate_raw_utf16-tested.ensures.error

pub returns-clause-bytes : goal.returns-clause-bytes
returns-clause-bytes g c = refl
