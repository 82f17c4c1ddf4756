use Rattle.std.proofs.Common.{rules}
use Rattle.utf16string.proofs.wstring.WString.shrink_to_fit.Goals as goal

pub returns-then-capacity-len-clause-ok : goal.returns-then-capacity-len-clause-ok
returns-then-capacity-len-clause-ok g c = search rules
