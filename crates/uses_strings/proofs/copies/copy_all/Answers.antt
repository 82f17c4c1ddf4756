use Rattle.std.proofs.Common.{rules}
use Rattle.uses_strings.proofs.Ordered.{copied_texts}
use Rattle.uses_strings.proofs.copies.copy_all.Goals as goal

pub returns : goal.returns
returns g c = search (rules, copied_texts)
