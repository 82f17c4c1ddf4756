use Rattle.std.proofs.Common.{rules}
use Rattle.utf16string.proofs.wstring.inserts.append.Goals as goal

pub returns-clause-items : goal.returns-clause-items
returns-clause-items g c = search rules
