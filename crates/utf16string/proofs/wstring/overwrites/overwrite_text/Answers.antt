use Rattle.std.proofs.Common.{rules}
use Rattle.utf16string.proofs.wstring.overwrites.overwrite_text.Goals as goal

pub returns : goal.returns
returns g c = search rules
