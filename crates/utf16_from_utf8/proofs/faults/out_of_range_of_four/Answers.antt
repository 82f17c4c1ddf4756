use Rattle.std.proofs.Common.{rules}
use Rattle.utf16_from_utf8.proofs.faults.out_of_range_of_four.Goals as goal

pub returns : goal.returns
returns c = search rules
