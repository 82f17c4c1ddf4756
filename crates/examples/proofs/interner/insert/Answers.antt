use Rattle.std.proofs.Common.{rules}
use Rattle.examples.proofs.interner.insert.Goals as goal

pub returns-in_err-insert-clause-err : goal.returns-in_err-insert-clause-err
returns-in_err-insert-clause-err g c = search rules
