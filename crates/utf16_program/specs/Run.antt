-- What a run did, given the outcome that it ended with.
use Rattle.std.specs.Prelude.{◌≡◌, ◌⊎◌, ℕ, List}
use Rattle.utf16_program.specs.Status.{reads_failed, writes_failed}
use Rattle.utf16_program.specs.Words.{Names}
use Rattle.utf16_program.specs.declared.job.Job.{Job}
use Rattle.utf16_program.specs.declared.outcome.Outcome.{Outcome}
use Rattle.utf16_program.specs.declared.words.Program.{Program}
use Rattle.utf16_streams.specs.Watched.{Counts}
use Rattle.utf16_streams.specs.declared.watched.Watched.{Watched}

-- If the words name a job, the outcome is the job's, and bytes were read and written as this
-- outcome says. With any other words the outcome is a refusal, and reader and writer were not
-- called. The I/O errors of the outcome were counted, and no others.
abbrev pub Runs : {R W : Type 0} → Program → (Job → Outcome → Type 0)
    → List (List ℕ) → (Outcome → Type 0)
    → Watched R → Watched R → Watched W → Watched W → Outcome → Type 0
Runs program DoesIt words IsRefused reader reader_after writer writer_after ended =
    ((job : Job) → Names program words job → DoesIt job ended)
    × (((job : Job) × Names program words job)
    ⊎ (IsRefused ended × (reader_after ≡ reader) × (writer_after ≡ writer)))
    × Counts reader reader_after (reads_failed ended)
    × Counts writer writer_after (writes_failed ended)
