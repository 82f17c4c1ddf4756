-- What a job did, for each of its outcomes: to the bytes that remain in its reader and to those
-- that its writer holds, before and after, if these are known.
use Rattle.std.specs.Prelude.{◌≡◌, ℕ, List, Option, Result}
use Rattle.utf16_streams.specs.Encoder.{EncodesAs, EncodesWithBom}
use Rattle.utf16_streams.specs.Filter.{FiltersIn}
use Rattle.utf16_streams.specs.declared.filters.FilterFault.{FilterFault}
use Rattle.utf16_program.specs.Checks.{ChecksBy}
use Rattle.utf16_program.specs.Outcome.{outcome}
use Rattle.utf16_program.specs.declared.job.Job.{Job}
use Rattle.utf16_program.specs.declared.job.Job.TheVariants.{Check, Decode, Encode, EncodeWithBom}
use Rattle.utf16_program.specs.declared.outcome.Outcome.{Outcome}

-- a filter's result gives the outcome, and bytes were read and written as this result says
abbrev pub ConvertsBy : (Result (Unit {0}) FilterFault → Type 0) → Outcome → Type 0
ConvertsBy Filters ended =
    (answer : Result (Unit {0}) FilterFault) × (ended ≡ outcome answer) × Filters answer

-- UTF-16 was read, and its text was written in UTF-8; UTF-8 was read, and its text was written in
-- UTF-16; or UTF-16 was read, and the report on it was written
abbrev pub Does : Job → Option (List ℕ) → Option (List ℕ) → Option (List ℕ) → Option (List ℕ)
    → Outcome → Type 0
Does (Decode order) input left old new = ConvertsBy (FiltersIn order input left old new)
Does (Encode big) input left old new = ConvertsBy (EncodesAs big input left old new)
Does (EncodeWithBom big) input left old new = ConvertsBy (EncodesWithBom big input left old new)
Does (Check order) input left old new = ChecksBy order input left old new
