-- How a run ends, given the result of its filter.
use Rattle.std.specs.Prelude.{Result, Ok, Err}
use Rattle.utf16_program.specs.declared.outcome.Outcome.{Outcome}
use Rattle.utf16_program.specs.declared.outcome.Outcome.TheVariants.{Done, Long, Memory, Read, Write}
use Rattle.utf16_streams.specs.declared.filters.FilterFault.{FilterFault}
use Rattle.utf16_streams.specs.declared.filters.FilterFault.TheVariants as fault

-- the outcome of a run, given the result of its filter
abbrev pub outcome : Result (Unit {0}) FilterFault → Outcome
outcome (Ok done) = Done
outcome (Err fault.Read) = Read
outcome (Err fault.Write) = Write
outcome (Err fault.Memory) = Memory
outcome (Err fault.Long) = Long
