use Rattle.std.proofs.Common.{rules}
use Rattle.utf16string.proofs.wstring.WString.capacity.Goals as goal

pub returns-clause-capacity : goal.returns-clause-capacity
returns-clause-capacity g c = search rules
