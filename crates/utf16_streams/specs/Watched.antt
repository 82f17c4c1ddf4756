-- What contracts can say about a `Watched`: its reader or writer, and its error count.
use Rattle.std.specs.Prelude.{◌≡◌, ℕ, zero, suc, ◌+◌, ◌-◌, ◌^◌, Result, MatchResult, min}
use Rattle.utf16_streams.specs.declared.watched.Watched.{Watched}

-- the count `faults` after `more` further I/O errors: it stops at the greatest `u64`
abbrev pub counted : ℕ → ℕ → ℕ
counted faults zero = faults
counted faults (suc more) = min (faults + suc more) (2 ^ 64 - 1)

module _ {T : Type 0} where
  -- `w.inner()`
  abbrev pub watched_inner : Watched T → T
  watched_inner w = w.inner

  -- `w.faults()`
  abbrev pub watched_faults : Watched T → ℕ
  watched_faults w = w.faults

  -- this many more I/O errors were counted
  abbrev pub Counts : Watched T → Watched T → ℕ → Type 0
  Counts old new more = watched_faults new ≡ counted (watched_faults old) more

  -- an I/O error adds one to the count, up to the greatest `u64`, and nothing else changes it
  abbrev pub CountsFaults : {A X : Type 0} → Watched T → Watched T → Result A X → Type 0
  CountsFaults old new result = MatchResult result (λ _. watched_faults new ≡ watched_faults old) (λ _. Counts old new 1)
