-- The programs: their names, and the words that each of them knows.
use Rattle.std.specs.Prelude.{◌≡◌, ◌≢◌, ◌⊎◌, ℕ, true, false, List, [], ◌∷◌, ◌++◌, None, Some, codes}
use Rattle.utf16_program.specs.declared.job.Job.{Job}
use Rattle.utf16_program.specs.declared.job.Job.TheVariants.{Check, Decode, Encode, EncodeWithBom}
use Rattle.utf16_program.specs.declared.words.Program.{Program}
use Rattle.utf16_program.specs.declared.words.Program.TheVariants as program

abbrev pub name_of : Program → List ℕ
name_of program.Cat = codes "utf16_cat"
name_of program.Enc = codes "utf16_enc"
name_of program.Check = codes "utf16_check"

-- the words of a program, and the job that each of them names
abbrev pub table_of : Program → List (List ℕ × Job)
table_of program.Cat =
    (codes "le", Decode (Some false)) ∷ (codes "be", Decode (Some true)) ∷ (codes "auto", Decode None) ∷ []
table_of program.Enc =
    (codes "le", Encode false) ∷ (codes "be", Encode true)
    ∷ (codes "le-bom", EncodeWithBom false) ∷ (codes "be-bom", EncodeWithBom true) ∷ []
table_of program.Check =
    (codes "le", Check (Some false)) ∷ (codes "be", Check (Some true)) ∷ (codes "auto", Check None) ∷ []

-- a word names a job: the first entry of a table with this word has this job
abbrev pub HasJob : List (List ℕ × Job) → List ℕ → Job → Type 0
HasJob [] word job = ⊥
HasJob ((first, its) ∷ table) word job =
    ((word ≡ first) × (job ≡ its)) ⊎ ((word ≢ first) × HasJob table word job)

-- the arguments are one word, and it names a job
abbrev pub Names : Program → List (List ℕ) → Job → Type 0
Names program (word ∷ []) job = HasJob (table_of program) word job
Names program words job = ⊥

-- the words of a table, with `|` between them
abbrev pub choices_of : List (List ℕ × Job) → List ℕ
choices_of [] = []
choices_of ((word, job) ∷ []) = word
choices_of ((word, job) ∷ next ∷ table) = word ++ codes "|" ++ choices_of (next ∷ table)
