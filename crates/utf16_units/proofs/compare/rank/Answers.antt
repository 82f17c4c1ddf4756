use Rattle.std.proofs.Common.{rules}
use Rattle.utf16_units.proofs.compare.rank.Goals as goal

pub returns-in-55296-to-57343 : goal.returns-in-55296-to-57343
returns-in-55296-to-57343 c = search rules

pub returns-in-57344-to-65535 : goal.returns-in-57344-to-65535
returns-in-57344-to-65535 c = search rules
