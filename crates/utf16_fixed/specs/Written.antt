-- The progress of the two conversions. No public clause uses it.
use Rattle.std.specs.Prelude.{◌≡◌, ℕ, ◌*◌, ◌≤◌, Bool, List, drop, length, take}
use Rattle.utf16_units.specs.Encoding.{encode, units_of}

-- the first n units were written as n bytes, and the rest of the buffer stays
pub record IsNarrowed (big : Bool) (raw old new : List ℕ) (n : ℕ) : Type 0 where
  pub within : 2 * n ≤ length raw
  pub fits : n ≤ length new
  pub wrote : take n new ≡ units_of big (take (2 * n) raw)
  pub rest : drop n new ≡ drop n old

-- the first n bytes were written in UTF-16, and the rest of the buffer stays
pub record IsWidened (big : Bool) (latin1 old new : List ℕ) (n : ℕ) : Type 0 where
  pub within : n ≤ length latin1
  pub fits : 2 * n ≤ length new
  pub wrote : take (2 * n) new ≡ encode big (take n latin1)
  pub rest : drop (2 * n) new ≡ drop (2 * n) old
