use Rattle.utf16string.specs.WString.{wstring_text}
use Rattle.uses_strings.proofs.Ordered.{known}
use Rattle.uses_strings.proofs.tables.is_known.Goals as goal

pub returns : goal.returns
returns g c = known wstring_text (wstring_text c.args.name.now) c.args.known.now.keys c.is_in.result c.is_in.ensures
