use Rattle.std.proofs.Common.{rules}
use Rattle.uses_strings.proofs.ranges.FieldSliceIndex.window.Goals as goal

pub returns : goal.returns
returns g c = search rules
