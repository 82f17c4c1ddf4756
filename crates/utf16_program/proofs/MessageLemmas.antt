-- Prefixes of a line that is written in parts.
use Rattle.std.proofs.Common.{◌≡◌, ℕ, ◌+◌, List, ◌++◌, Option, Result, Ok, Err, OnErr, length, take, drop, sym, subst, ap, ◌∙◌, append_assoc, take-append-drop}
use Rattle.std.proofs.Math.Seq.{take-append_seam, take-append-add}
use Rattle.std.specs.Io.KnownBytes.{Appends}
use Rattle.std.proofs.KnownBytes.{Appends-trans}
use Rattle.utf16_streams.specs.Watched.{CountsFaults, counted}
use Rattle.utf16_streams.specs.Filter.{AppendsPrefix}
use Rattle.utf16_streams.specs.declared.watched.DeviceFault.{DeviceFault}
use Rattle.utf16_streams.specs.declared.watched.Watched.{Watched}
use Rattle.utf16_program.specs.Message.{TellsAll, TellsPrefix}

module _ {W : Type 0} (contents : W → Option (List ℕ)) (old : Watched W) where
  -- a prefix of the first part was written
  pub of_front : (new : Watched W) (front back : List ℕ) → TellsPrefix contents old new front → TellsPrefix contents old new (front ++ back)
  of_front new front back ((n, wrote), counts) =
      let written = take n front in
      let joined : front ++ back ≡ written ++ (drop n front ++ back) = ap (λ f. f ++ back) (sym (take-append-drop n front)) ∙ append_assoc written (drop n front) back in
      let same = ap (take (length written)) joined ∙ take-append_seam written (drop n front ++ back) in
      ((length written, subst (Appends (contents old.inner) (contents new.inner)) (sym same) wrote), counts)

  -- all of the first part and a prefix of the second were written
  pub of_back : (mid new : Watched W) (front back : List ℕ) → TellsAll contents old mid front → TellsPrefix contents mid new back → TellsPrefix contents old new (front ++ back)
  of_back mid new front back (first, none) ((n, wrote), counts) = (
    (
      length front + n,
      subst (Appends (contents old.inner) (contents new.inner)) (sym (take-append-add front back n))
          (Appends-trans _ _ _ front (take n back) first wrote),
    ),
    counts ∙ ap (λ f. counted f 1) none,
  )

  -- what `Watched::write_all` says of an error
  pub both_of : (new : Watched W) (line : List ℕ) (result : Result (Unit {0}) DeviceFault) → OnErr result (AppendsPrefix (contents old.inner) (contents new.inner) line)
      → CountsFaults old new result → OnErr result (TellsPrefix contents old new line)
  both_of new line (Ok done) wrote counts = wrote
  both_of new line (Err fault) wrote counts = (wrote, counts)
