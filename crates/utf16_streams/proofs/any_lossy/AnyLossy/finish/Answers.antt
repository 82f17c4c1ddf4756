use Rattle.std.proofs.Common.{rules}
use Rattle.utf16_streams.proofs.any_lossy.AnyLossy.finish.Goals as goal

pub returns-in-Undecided-clause-none : goal.returns-in-Undecided-clause-none
returns-in-Undecided-clause-none c = search rules

pub returns-in-Undecided-clause-replacement : goal.returns-in-Undecided-clause-replacement
returns-in-Undecided-clause-replacement c = search rules
