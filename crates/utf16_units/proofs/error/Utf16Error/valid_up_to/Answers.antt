use Rattle.std.proofs.Common.{rules}
use Rattle.utf16_units.proofs.error.Utf16Error.valid_up_to.Goals as goal

pub returns : goal.returns
returns c = search rules
