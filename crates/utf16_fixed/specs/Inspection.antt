-- What an inspection finds.
use Rattle.std.specs.Prelude.{◌≡◌, ◌↔◌, ℕ, ◌<◌, Bool, List, None, Some, All, count_by, length}
use Rattle.std.specs.Char.Utf16.{is_low_surrogate}
use Rattle.utf16_units.specs.Encoding.{IsUtf16}
use Rattle.utf16_transcode.specs.Stops.{IsIllFormedUtf16}
use Rattle.utf16_transcode.specs.declared.progress.Stop.{Stop}
use Rattle.utf16_transcode.specs.declared.progress.Stop.TheVariants.{Incomplete, Done, IllFormed, NoSpace}

-- the longest valid prefix of the bytes, and what follows it: nothing, an ill-formed sequence, or
-- the beginning of a character
abbrev pub EndsAt : Bool → List ℕ → ℕ → Stop → Type 0
EndsAt big raw valid_up_to Done = IsUtf16 big raw × (valid_up_to ≡ length raw)
EndsAt big raw valid_up_to (IllFormed len) = IsIllFormedUtf16 big raw valid_up_to (Some len)
EndsAt big raw valid_up_to Incomplete = IsIllFormedUtf16 big raw valid_up_to None
EndsAt big raw valid_up_to NoSpace = ⊥

-- what a pass over units finds, which no public clause uses: the number of trailing surrogates, and
-- units that are below a limit exactly if all are
pub record IsScanOf (units : List ℕ) (trailing : ℕ) (greatest : List ℕ) : Type 0 where
  pub counted : trailing ≡ count_by is_low_surrogate units
  pub long : length greatest ≡ 32
  pub below : (limit : ℕ) → 0 < limit → All (λ unit. unit < limit) units ↔ All (λ unit. unit < limit) greatest
