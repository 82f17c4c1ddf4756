-- What a run reports at its end: the exit status and the message of its outcome.
use Rattle.std.specs.Prelude.{◌≡◌, ◌⊎◌, ℕ, List, [], ◌∷◌, ◌++◌, Option, codes}
use Rattle.std.specs.Io.KnownBytes.{Appends}
use Rattle.utf16_program.specs.Status.{status_of}
use Rattle.utf16_program.specs.Words.{choices_of, name_of, table_of}
use Rattle.utf16_program.specs.declared.outcome.Outcome.{Outcome}
use Rattle.utf16_program.specs.declared.outcome.Outcome.TheVariants.{Done, IllFormed, Long, Memory, Read, Usage, Write}
use Rattle.utf16_program.specs.declared.words.Program.{Program}
use Rattle.utf16_streams.specs.Filter.{AppendsPrefix}
use Rattle.utf16_streams.specs.Watched.{Counts, watched_faults, watched_inner}
use Rattle.utf16_streams.specs.declared.watched.Watched.{Watched}

-- the message of a run's outcome, as bytes, with its newline; empty if all was converted or checked
abbrev pub line_of : Program → Outcome → List ℕ
line_of program Done = []
line_of program IllFormed = []
line_of program Read = name_of program ++ codes ": read failed" ++ 0x0A ∷ []
line_of program Write = name_of program ++ codes ": write failed" ++ 0x0A ∷ []
line_of program Memory = name_of program ++ codes ": out of memory" ++ 0x0A ∷ []
line_of program Long = name_of program ++ codes ": input too long" ++ 0x0A ∷ []
line_of program Usage = codes "usage: " ++ name_of program ++ codes " " ++ choices_of (table_of program) ++ 0x0A ∷ []

module _ {W : Type 0} (contents : W → Option (List ℕ)) (old new : Watched W) where
  -- all of the line was written, without an I/O error
  abbrev pub TellsAll : List ℕ → Type 0
  TellsAll line = Appends (contents (watched_inner old)) (contents (watched_inner new)) line
      × (watched_faults new ≡ watched_faults old)

  -- a prefix of the line was written, and then there was one I/O error, which was counted; the
  -- count stops at the greatest `u64`
  abbrev pub TellsPrefix : List ℕ → Type 0
  TellsPrefix line =
      AppendsPrefix (contents (watched_inner old)) (contents (watched_inner new)) line
      × Counts old new 1

  -- one of the two; for an empty line the writer was not called
  abbrev pub Tells : List ℕ → Type 0
  Tells line = (line ≡ [] → new ≡ old) × (TellsAll line ⊎ TellsPrefix line)

  -- this outcome gives the status and the message
  abbrev pub Reports : Program → Outcome → ℕ → Type 0
  Reports program ended status = (status ≡ status_of ended) × Tells (line_of program ended)
