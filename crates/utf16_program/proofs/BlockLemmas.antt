-- The block of a check: the pending bytes at its front, and those that were read behind them.
use Rattle.std.proofs.Common.{◌≡◌, ℕ, ◌+◌, ◌-◌, ◌≤◌, Bool, List, ◌++◌, Option, length, take, drop, sym, subst, ap, ap₂, ◌∙◌, arith, length-drop, length-take, take-add, take_at}
use Rattle.std.proofs.lemmas.List.{drop-take, length-take-le, take-take}
use Rattle.std.specs.Io.KnownBytes.{Appends, Consumes, IsAtEnd}
use Rattle.std.specs.List.{copy_within}
use Rattle.utf16_units.proofs.FirstChar.{AreBytes}
use Rattle.utf16_units.proofs.SplitIllFormed.{AreBytes-drop, AreBytes-take}
use Rattle.utf16_program.specs.Checker.{Follows, IsPending, Takes, checker_ill_formed, checker_lines, checker_report}
use Rattle.utf16_program.specs.declared.checker.Checker.{Checker}
use Rattle.utf16_program.specs.declared.outcome.Outcome.{Outcome}
use Rattle.utf16_program.specs.Checks.{ChecksBy, EndsBy, FailsBy}
use Rattle.utf16_program.proofs.CheckLemmas.{Checking, Checking-end, Checking-fails, Checking-more}

pub filled_with : (old new : List ℕ) (pending room count : ℕ) → take pending new ≡ take pending old → count ≤ room
    → take (pending + count) new ≡ take pending old ++ take count (take room (drop pending new))
filled_with old new pending room count before within =
    take-add pending count new ∙ ap₂ (λ a b. a ++ b) before (sym (take-take count room (drop pending new) within))

-- the bytes that are left move to the front
pub kept_of : (block : List ℕ) (taken filled : ℕ) → taken ≤ filled → filled ≤ length block
    → take (filled - taken) (copy_within block taken filled 0) ≡ drop taken (take filled block)
kept_of block taken filled before within =
    let long : length (take (filled - taken) (drop taken block)) ≡ filled - taken = length-take-le (filled - taken) (drop taken block) (omega (arith, length-drop taken block)) in
    let all : taken + (filled - taken) ≡ filled = omega arith in
    take_at (take (filled - taken) (drop taken block)) (drop (0 + (filled - taken)) block) (filled - taken) long
    ∙ sym (drop-take taken (filled - taken) block) ∙ ap (λ n. drop taken (take n block)) all

-- the block was filled behind the pending bytes
module _ (before block : List ℕ) (pending room count : ℕ) (same : take pending block ≡ take pending before) (within : count ≤ room) where
  abbrev piece : List ℕ
  piece = take count (take room (drop pending block))

  abbrev filled : List ℕ
  filled = take (pending + count) block

  is_filled : filled ≡ take pending before ++ piece
  is_filled = filled_with before block pending room count same within

  -- the run ends at this block
  pub block_fails : (order : Option Bool) (input left after old new now : Option (List ℕ)) (checker : Checker) (ended : Outcome)
      → Checking order input left old new checker (take pending before) → Consumes left after piece → room ≤ 4096 → FailsBy new now (checker_lines checker filled) ended
      → ChecksBy order input after old now ended
  block_fails order input left after old new now checker ended so_far read few fails =
      Checking-fails order input left old new checker (take pending before) so_far piece after read now ended (omega (arith, few, within, length-take count (take room (drop pending block))))
      (subst (λ b. FailsBy new now (checker_lines checker b) ended) is_filled fails)

  -- nothing was read, and the run ends
  pub block_ends : (order : Option Bool) (input left after old new now : Option (List ℕ)) (checker : Checker) (ended : Outcome)
      → Checking order input left old new checker (take pending before) → count ≡ 0 → Consumes left after piece → IsAtEnd after
      → EndsBy new now (checker_report checker (take pending block)) (checker_ill_formed checker (take pending block)) ended → ChecksBy order input after old now ended
  block_ends order input left after old new now checker ended so_far none read at_end =
      Checking-end order input left old new checker (take pending block) (subst (Checking order input left old new checker) (sym same) so_far) after
      (subst (λ n. Consumes left after (take n (take room (drop pending block)))) none read) at_end now ended

  -- the block was checked, and what is then pending moved to the front
  module _ (checker later : Checker) (taken : ℕ) (moved : List ℕ) (fits : pending + count ≤ length block) (takes : Takes checker later filled taken)
      (copied : moved ≡ copy_within block taken (pending + count) 0) where
    abbrev kept : List ℕ
    kept = take ((pending + count) - taken) moved

    long : length filled ≡ pending + count
    long = length-take-le (pending + count) block fits

    is_kept : kept ≡ drop taken filled
    is_kept = ap (take ((pending + count) - taken)) copied ∙ kept_of block taken (pending + count) (omega (arith, long, takes.within)) fits

    pub kept_pending : IsPending later kept
    kept_pending = subst (IsPending later) (sym is_kept) takes.pending

    pub Checking-block : (order : Option Bool) (input left after old new now : Option (List ℕ)) → Checking order input left old new checker (take pending before) → Consumes left after piece
        → AreBytes block → Appends new now (checker_lines checker filled) → Checking order input after old now later kept
    Checking-block order input left after old new now so_far read are wrote =
        let follows = subst (λ b. Follows checker later b kept) is_filled (subst (Follows checker later filled) (sym is_kept) takes.follows) in
        let left_over : length kept ≡ (pending + count) - taken = ap length is_kept ∙ length-drop taken filled ∙ ap (λ n. n - taken) long in
        Checking-more order input left old new checker (take pending before) so_far piece after read now later kept
        (AreBytes-take count (take room (drop pending block)) (AreBytes-take room (drop pending block) (AreBytes-drop pending block are)))
        (subst (λ b. Appends new now (checker_lines checker b)) is_filled wrote) follows (omega (arith, takes.offset, left_over, long, ap length is_filled, takes.within))
