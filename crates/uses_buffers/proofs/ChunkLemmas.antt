-- The loop over the chunks of a stream of WTF-8.
use Rattle.std.proofs.Common.{◌≡◌, ◌≢◌, ◌⊎◌, inl, inr, ℕ, ◌+◌, Bool, false, List, [], ◌++◌, drop, refl, sym, ap, ◌∙◌, subst, arith, append-nil}
use Rattle.std.proofs.lemmas.List.{drop-append-le, drop-drop}
use Rattle.std.proofs.lemmas.List.Elements.{All-nil}
use Rattle.utf16_transcode.specs.declared.progress.Stop.{Stop}
use Rattle.utf16_transcode.specs.declared.progress.Stop.TheVariants.{Incomplete, Done, IllFormed, NoSpace}
use Rattle.utf16_wtf8.specs.FromWtf8.{EndsLeading}
use Rattle.utf16_wtf8.specs.Wtf8.{IsCodePoint, ends_leading}
use Rattle.utf16_wtf8.proofs.CodeLemmas.{spelled-nil}
use Rattle.uses_buffers.specs.FormCalls.{IsCall}
use Rattle.uses_buffers.specs.Forms.{from_wtf8, from_wtf8_partial}
use Rattle.uses_buffers.proofs.CutLemmas.{from_wtf8_cuts, from_wtf8_partial_cuts}

-- what is certain of the chunks so far was converted, and the rest is left
pub record Kept (big : Bool) (joined all unread : List ℕ) : Type 0 where
  pub at : ℕ
  pub left : ℕ
  pub stop : Stop
  pub call : IsCall (from_wtf8_partial big) joined all at left stop
  pub certain : (stop ≡ Done) ⊎ (stop ≡ Incomplete)
  pub rest : unread ≡ drop at joined

-- what was appended is another name's value
pub joined_as : (new old part by : List ℕ) → by ≡ part → new ≡ old ++ by → new ≡ old ++ part
joined_as new old part by is wrote = wrote ∙ ap (λ p. old ++ p) is

-- no chunk
no_leading : EndsLeading [] false
no_leading points spells = ap ends_leading (spelled-nil points spells.spelled)

pub kept_none : (big : Bool) (all unread : List ℕ) → all ≡ [] → unread ≡ [] → Kept big [] all unread
kept_none big all unread none nothing = record {
  at = 0;
  left = 0;
  stop = Done;
  call =
      subst (λ out. IsCall (from_wtf8_partial big) [] out 0 0 Done) (sym none)
      (record {
        within = omega arith;
        writes = record { points = []; spells = record { each_point = All-nil IsCodePoint; no_pair = tt; spelled = refl }; units = refl };
        stops = (refl, no_leading);
      });
  certain = inl refl;
  rest = nothing;
}

-- a call that did not find an ill-formed sequence
pub certain_of : (stop : Stop) → stop ≢ NoSpace → ((len : ℕ) → ¬ (stop ≡ IllFormed len)) → (stop ≡ Done) ⊎ (stop ≡ Incomplete)
certain_of Done space other = inl refl
certain_of (IllFormed len) space other = absurd (other len refl)
certain_of Incomplete space other = inr refl
certain_of NoSpace space other = absurd (space refl)

module _ (big : Bool) (joined all unread part input next grown rest : List ℕ) (kept : Kept big joined all unread) (read room : ℕ) (stop : Stop) (same : grown ≡ all ++ part) (left : rest ≡ drop read input) where
  -- one chunk more
  pub chunk_step : (chunk : List ℕ) → input ≡ unread ++ chunk → next ≡ joined ++ chunk → IsCall (from_wtf8_partial big) input part read room stop
      → IsCall (from_wtf8_partial big) next grown (kept.at + read) room stop × (rest ≡ drop (kept.at + read) next)
  chunk_step chunk is more call =
      let given = is ∙ ap (λ r. r ++ chunk) kept.rest in (
        subst (λ b. IsCall (from_wtf8_partial big) b grown (kept.at + read) room stop) (sym more)
            (subst (λ out. IsCall (from_wtf8_partial big) (joined ++ chunk) out (kept.at + read) room stop) (sym same)
            (from_wtf8_partial_cuts big joined chunk all part kept.at read kept.left room kept.stop stop kept.call kept.certain
            (subst (λ b. IsCall (from_wtf8_partial big) b part read room stop) given call))),
        left ∙ ap (drop read) (given ∙ sym (drop-append-le kept.at joined chunk kept.call.within)) ∙ drop-drop read kept.at (joined ++ chunk) ∙ ap (drop (kept.at + read)) (sym more),
      )

  -- the end of the stream
  pub end_step : input ≡ unread → next ≡ joined → IsCall (from_wtf8 big) input part read room stop → IsCall (from_wtf8 big) next grown (kept.at + read) room stop × (rest ≡ drop (kept.at + read) next)
  end_step is more call = (
    subst (λ b. IsCall (from_wtf8 big) b grown (kept.at + read) room stop) (append-nil joined ∙ sym more)
        (subst (λ out. IsCall (from_wtf8 big) (joined ++ []) out (kept.at + read) room stop) (sym same)
        (from_wtf8_cuts big joined [] all part kept.at read kept.left room kept.stop stop kept.call kept.certain
        (subst (λ b. IsCall (from_wtf8 big) b part read room stop) (is ∙ kept.rest ∙ sym (append-nil (drop kept.at joined))) call))),
    left ∙ ap (drop read) (is ∙ kept.rest) ∙ drop-drop read kept.at joined ∙ ap (drop (kept.at + read)) (sym more),
  )

-- a call that found an ill-formed sequence did what `from_wtf8` does
pub found_call : (big : Bool) (input out : List ℕ) (n left len : ℕ) (stop : Stop) → stop ≡ IllFormed len → IsCall (from_wtf8_partial big) input out n left stop
    → IsCall (from_wtf8 big) input out n left stop
found_call big input out n left len stop is call =
    let here = subst (λ s. IsCall (from_wtf8_partial big) input out n left s) is call in
    subst (λ s. IsCall (from_wtf8 big) input out n left s) (sym is) (record { within = here.within; writes = here.writes; stops = here.stops })
