-- What the arguments of a program say, as the environment gave them.
use Rattle.std.specs.Prelude.{◌≡◌, ◌≢◌, ◌⊎◌, ℕ, List, [], ◌∷◌, Option, None, Some, Result, Err, Ok, drop, map}
use Rattle.utf16_program.specs.declared.outcome.Outcome.{Outcome}
use Rattle.utf16_program.specs.declared.outcome.Outcome.TheVariants.{Memory, Usage}

-- the arguments after the name of the program, as bytes; none if they could not be read
abbrev pub words_of : {X Y E : Type 0} → (X → List Y) → (Y → List ℕ) → Result X E → List (List ℕ)
words_of items bytes (Ok args) = map bytes (drop 1 (items args))
words_of items bytes (Err error) = []

-- the outcome of arguments that name no job: `Memory` if the error was a lack of memory
abbrev pub IsRefusal : {X E : Type 0} → (E → Type 0) → Result X E → Outcome → Type 0
IsRefusal lacks_memory (Ok args) ended = ended ≡ Usage
IsRefusal lacks_memory (Err error) ended =
    (lacks_memory error × (ended ≡ Memory)) ⊎ ((lacks_memory error → ⊥) × (ended ≡ Usage))

-- the only item of a list that has exactly one
abbrev pub IsOnly : {X : Type 0} → List X → Option X → Type 0
IsOnly items (Some item) = items ≡ item ∷ []
IsOnly {X} items None = (item : X) → items ≢ item ∷ []
