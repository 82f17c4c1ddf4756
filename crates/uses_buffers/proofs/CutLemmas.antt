-- WTF-8 that comes in chunks: what a call leaves of a chunk comes before the next one.
use Rattle.std.proofs.Common.{◌≡◌, ◌⊎◌, inl, inr, ℕ, ◌≤◌, Bool, false, List, ◌++◌, None, drop, length, take, sym, ap, ◌∙◌, subst, ⊎_elim, arith, append_assoc, length-append, length-drop, take-append-drop, true≢false}
use Rattle.std.proofs.lemmas.List.{drop-append-le, take-append-le}
use Rattle.utf16_transcode.specs.declared.progress.Stop.{Stop}
use Rattle.utf16_transcode.specs.declared.progress.Stop.TheVariants.{Incomplete, Done, IllFormed, NoSpace}
use Rattle.utf16_wtf8.specs.FromWtf8.{EndsLeading, IsIllFormedWtf8, LeavesLeading, StopsFromWtf8Partial, TranscodesFromWtf8}
use Rattle.utf16_wtf8.specs.Wtf8.{SpellsWtf8, generalized_utf8}
use Rattle.utf16_wtf8.proofs.CodeLemmas.{point-unique}
use Rattle.uses_buffers.specs.FormCalls.{IsCall}
use Rattle.uses_buffers.specs.Forms.{Cuts, from_wtf8, from_wtf8_partial}
use Rattle.uses_buffers.proofs.SeamLemmas.{Apart, Begins}
use Rattle.uses_buffers.proofs.Wtf8Lemmas.{from_wtf8_after, from_wtf8_partial_after}

-- a call that read what is certain of a chunk: what it read does not end with a leading surrogate,
-- or such a one begins what it left
certain : (big : Bool) (chunk : List ℕ) (at left : ℕ) (stop : Stop) → (stop ≡ Done) ⊎ (stop ≡ Incomplete) → StopsFromWtf8Partial big chunk at left stop
    → EndsLeading (take at chunk) false ⊎ LeavesLeading chunk at
certain big chunk at left Done is here = inl here.1
certain big chunk at left (IllFormed len) is here = ⊎_elim (λ (e : IllFormed len ≡ Done). absurd (cc)) (λ (e : IllFormed len ≡ Incomplete). absurd (cc)) is
certain big chunk at left Incomplete is here = ⊎_elim
    (λ (cut : IsIllFormedWtf8 chunk at None × EndsLeading (take at chunk) false). inl cut.1)
    (λ (leaves : LeavesLeading chunk at). inr leaves)
    here
certain big chunk at left NoSpace is here = ⊎_elim (λ (e : NoSpace ≡ Done). absurd (cc)) (λ (e : NoSpace ≡ Incomplete). absurd (cc)) is

module _ (big : Bool) (chunk bytes out : List ℕ) (at : ℕ) (within : at ≤ length chunk) (given : TranscodesFromWtf8 big (take at chunk) out)
    (either : EndsLeading (take at chunk) false ⊎ LeavesLeading chunk at) where
  abbrev input : List ℕ
  input = chunk ++ bytes

  front_is : take at input ≡ take at chunk
  front_is = take-append-le at chunk bytes within

  rest_is : drop at input ≡ drop at chunk ++ bytes
  rest_is = drop-append-le at chunk bytes within

  within_both : at ≤ length input
  within_both = omega (arith, within, length-append chunk bytes)

  given_both : TranscodesFromWtf8 big (take at input) out
  given_both = subst (λ b. TranscodesFromWtf8 big b out) (sym front_is) given

  -- the leading surrogate begins the rest
  begins : (leaves : LeavesLeading chunk at) → drop at input ≡ generalized_utf8 leaves.lead ++ drop 3 (drop at input)
  begins leaves =
      sym (take-append-drop 3 (drop at input))
      ∙ ap (λ b. b ++ drop 3 (drop at input)) (ap (take 3) rest_is ∙ take-append-le 3 (drop at chunk) bytes (omega (arith, leaves.within, length-drop at chunk)) ∙ leaves.begins)

  clear : Apart input at
  clear n ends trail = ⊎_elim
      (λ (isnt : EndsLeading (take at chunk) false).
      true≢false (sym (ends given.points (subst (SpellsWtf8 given.points) (sym front_is) given.spells)) ∙ isnt given.points given.spells))
      (λ (leaves : LeavesLeading chunk at).
      let rest = drop at input in
      let below = trail.trailing.1 in
      let most = leaves.leading.1 in
      let same = point-unique trail.trail leaves.lead (trail.more ++ drop n rest) (drop 3 rest) (omega (arith, below)) (omega (arith, most))
      (sym (append_assoc (generalized_utf8 trail.trail) trail.more (drop n rest)) ∙ ap (λ b. b ++ drop n rest) (sym trail.begins) ∙ take-append-drop n rest ∙ begins leaves) in
      omega (arith, same.0, trail.trailing.0, most))
      either

  goes_on : Begins (drop at input) ⊎ EndsLeading (take at input) false
  goes_on = ⊎_elim
      (λ (isnt : EndsLeading (take at chunk) false). inr (subst (λ b. EndsLeading b false) (sym front_is) isnt))
      (λ (leaves : LeavesLeading chunk at).
      let most = leaves.leading.1 in
      inl (record { point = leaves.lead; more = drop 3 (drop at input); code_point = omega (arith, most); begins = begins leaves }))
      either

pub from_wtf8_cuts : (big : Bool) → Cuts big (from_wtf8 big)
from_wtf8_cuts big chunk bytes out more at read left room stop last first is second =
    let either = certain big chunk at left stop is first.stops in
    from_wtf8_after big (chunk ++ bytes) out more at read room last (within_both big chunk bytes out at first.within first.writes either)
    (given_both big chunk bytes out at first.within first.writes either) (clear big chunk bytes out at first.within first.writes either)
    (subst (λ r. IsCall (from_wtf8 big) r more read room last) (sym (rest_is big chunk bytes out at first.within first.writes either)) second)

pub from_wtf8_partial_cuts : (big : Bool) → Cuts big (from_wtf8_partial big)
from_wtf8_partial_cuts big chunk bytes out more at read left room stop last first is second =
    let either = certain big chunk at left stop is first.stops in
    from_wtf8_partial_after big (chunk ++ bytes) out more at read room last (within_both big chunk bytes out at first.within first.writes either)
    (given_both big chunk bytes out at first.within first.writes either) (clear big chunk bytes out at first.within first.writes either)
    (goes_on big chunk bytes out at first.within first.writes either)
    (subst (λ r. IsCall (from_wtf8_partial big) r more read room last) (sym (rest_is big chunk bytes out at first.within first.writes either)) second)
