use Rattle.std.proofs.Common.{rules}
use Rattle.examples.proofs.records.FieldsIterator.next.Goals as goal

pub returns-in-Err-clause-steps : goal.returns-in-Err-clause-steps
returns-in-Err-clause-steps g c = search rules
