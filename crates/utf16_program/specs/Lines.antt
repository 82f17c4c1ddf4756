-- What appending text to bytes did.
use Rattle.std.specs.Prelude.{◌≡◌, ℕ, ◌+◌, ◌<◌, ◌≤◌, List, ◌++◌, OnErr, OnOk, Result, Vec, length, take, vec_capacity, vec_len}

-- the text was appended to `old`; or the capacity did not suffice, and a part of it may be appended
pub record Appends {A E : Type 0} (old new : Vec ℕ A) (result : Result (Unit {0}) E) (text : List ℕ) : Type 0 where
  pub appended : OnOk result (new.items ≡ old.items ++ text)
  pub kept : take (length old.items) new.items ≡ old.items
  pub full : OnErr result (vec_capacity old < vec_len old + length text)
  pub grows : vec_capacity old ≤ vec_capacity new
