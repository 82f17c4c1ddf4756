-- What a check did to the bytes that remain in its reader and to those that its writer holds, if
-- these are known.
use Rattle.std.specs.Prelude.{◌≡◌, ◌≢◌, ◌⊎◌, ℕ, ◌-◌, ◌<◌, ◌^◌, Bool, List, Option, length, take}
use Rattle.std.specs.Io.KnownBytes.{Appends, Consumes, IsAtEnd, Keeps}
use Rattle.utf16_units.specs.Encoding.{IsUtf16}
use Rattle.utf16_streams.specs.Filter.{AppendsPrefix, FiltersPrefix, FiltersSome, IsNearEnd}
use Rattle.utf16_program.specs.declared.outcome.Outcome.{Outcome}
use Rattle.utf16_program.specs.declared.outcome.Outcome.TheVariants.{Done, IllFormed, Long, Memory, Read, Usage, Write}
use Rattle.utf16_streams.specs.Bom.{big_in, text_in}
use Rattle.utf16_program.specs.Report.{lines, report}

-- the text of the input is well formed
abbrev pub IsWellFormed : Option Bool → List ℕ → Type 0
IsWellFormed order bytes = IsUtf16 (big_in order bytes) (text_in order bytes)

-- the order is `Some true` for big endian, `Some false` for little endian, and `None` if the BOM
-- gives it
module _ (order : Option Bool) (input left old new : Option (List ℕ)) where
  -- the input was read to its end, this holds of it, and the report on it was written
  abbrev pub ChecksAll : (List ℕ → Type 0) → Type 0
  ChecksAll Holds = (bytes : List ℕ)
      × Consumes input left bytes × IsAtEnd left × Appends old new (report order bytes) × Holds bytes

  -- some bytes were read, and the lines for all but the last 4,096 of them at most were written;
  -- there was at least one line more: of the other bytes, or the last line, at the end of the input
  abbrev pub ChecksBefore : Type 0
  ChecksBefore = (bytes : List ℕ) × Consumes input left bytes
      × ((n : ℕ) × IsNearEnd bytes n × Appends old new (lines order (take n bytes))
      × ((lines order (take n bytes) ≢ lines order bytes) ⊎ IsAtEnd left))

  -- what a check did, by its outcome
  abbrev pub ChecksBy : Outcome → Type 0
  ChecksBy Done = ChecksAll (IsWellFormed order)
  ChecksBy IllFormed = ChecksAll (λ bytes. ¬ (IsWellFormed order bytes))
  ChecksBy Read = FiltersSome (lines order) (report order) input left old new 0
  ChecksBy Write = FiltersPrefix (lines order) (report order) input left old new
  ChecksBy Memory = ChecksBefore
  ChecksBy Long = FiltersSome (lines order) (report order) input left old new (2 ^ 64 - 1)
  ChecksBy Usage = ⊥

-- what the end of an input wrote, by its outcome: all lines that are left, of which `ill_formed`
-- are the ill-formed sequences of the input; a prefix; or nothing
abbrev pub EndsBy : Option (List ℕ) → Option (List ℕ) → List ℕ → ℕ → Outcome → Type 0
EndsBy old new rest ill_formed Done = Appends old new rest × (ill_formed ≡ 0)
EndsBy old new rest ill_formed IllFormed = Appends old new rest × (ill_formed ≢ 0)
EndsBy old new rest ill_formed Read = ⊥
EndsBy old new rest ill_formed Write = AppendsPrefix old new rest
EndsBy old new rest ill_formed Memory = Keeps old new
EndsBy old new rest ill_formed Long = ⊥
EndsBy old new rest ill_formed Usage = ⊥

-- what a block of the input wrote if the run ends there, by the outcome: a prefix of its lines; or
-- nothing, though it has a line
abbrev pub FailsBy : Option (List ℕ) → Option (List ℕ) → List ℕ → Outcome → Type 0
FailsBy old new lines Done = ⊥
FailsBy old new lines IllFormed = ⊥
FailsBy old new lines Read = ⊥
FailsBy old new lines Write = AppendsPrefix old new lines
FailsBy old new lines Memory = Keeps old new × (0 < length lines)
FailsBy old new lines Long = ⊥
FailsBy old new lines Usage = ⊥
