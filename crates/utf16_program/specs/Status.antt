-- The exit status of a run, and the I/O errors that end it.
use Rattle.std.specs.Prelude.{ℕ}
use Rattle.utf16_program.specs.declared.outcome.Outcome.{Outcome}
use Rattle.utf16_program.specs.declared.outcome.Outcome.TheVariants.{Done, IllFormed, Long, Memory, Read, Usage, Write}

-- 0 if the whole input was converted, or was checked and is well formed; 2 if the arguments name no
-- choice; otherwise 1
abbrev pub status_of : Outcome → ℕ
status_of Done = 0
status_of IllFormed = 1
status_of Read = 1
status_of Write = 1
status_of Memory = 1
status_of Long = 1
status_of Usage = 2

-- the number of the reader's I/O errors that an outcome implies
abbrev pub reads_failed : Outcome → ℕ
reads_failed Done = 0
reads_failed IllFormed = 0
reads_failed Read = 1
reads_failed Write = 0
reads_failed Memory = 0
reads_failed Long = 0
reads_failed Usage = 0

-- the number of the writer's I/O errors that an outcome implies
abbrev pub writes_failed : Outcome → ℕ
writes_failed Done = 0
writes_failed IllFormed = 0
writes_failed Read = 0
writes_failed Write = 1
writes_failed Memory = 0
writes_failed Long = 0
writes_failed Usage = 0
