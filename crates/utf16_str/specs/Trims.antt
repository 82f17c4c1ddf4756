-- A text without the occurrences of a part at its ends.
use Rattle.std.specs.Prelude.{◌≡◌, ◌≢◌, ℕ, List, [], ◌++◌}
use Rattle.std.specs.List.{repeat}

-- the part was taken off the start as often as the text begins with it
pub record IsTrimmedStart (part text result : List ℕ) : Type 0 where
  pub times : ℕ
  pub split : text ≡ repeat times part ++ result
  pub stops : part ≢ [] → (rest : List ℕ) → ¬ (result ≡ part ++ rest)

-- the part was taken off the end as often as the text ends with it
pub record IsTrimmedEnd (part text result : List ℕ) : Type 0 where
  pub times : ℕ
  pub split : text ≡ result ++ repeat times part
  pub stops : part ≢ [] → (front : List ℕ) → ¬ (result ≡ front ++ part)

-- the part was taken off the start, and then off the end
pub record IsTrimmed (part text result : List ℕ) : Type 0 where
  pub middle : List ℕ
  pub start : IsTrimmedStart part text middle
  pub end : IsTrimmedEnd part middle result
