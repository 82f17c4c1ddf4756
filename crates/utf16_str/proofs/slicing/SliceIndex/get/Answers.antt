use Rattle.std.proofs.Common.{rules}
use Rattle.utf16_str.proofs.slicing.SliceIndex.get.Goals as goal

pub returns-clause-some : goal.returns-clause-some
returns-clause-some g c = search rules

pub returns-clause-part : goal.returns-clause-part
returns-clause-part g c = search rules

pub returns-clause-bytes : goal.returns-clause-bytes
returns-clause-bytes g c = search rules
