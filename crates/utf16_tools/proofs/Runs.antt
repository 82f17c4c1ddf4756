-- A run of edits, one edit at a time.
use Rattle.std.proofs.Common.{◌≡◌, ◌⊎◌, ℕ, List, [], ◌∷◌, ◌++◌, All, Some, refl, subst, ⊎_elim, ◌∙◌}
use Rattle.std.proofs.lemmas.List.Elements.{All-pop}
use Rattle.utf16_units.specs.declared.byte_order.Utf16Order.{Ghosts}
use Rattle.utf16_tools.specs.Step.{MayAllocate, Run, Step}
use Rattle.utf16_tools.specs.declared.edit.Edit.{Edit}
use Rattle.utf16_tools.specs.declared.edit.Reply.{Reply}

module _ {E Z : Type 0} {order : Ghosts E} where
  pub Run-push : (old mid new : List ℕ) (edits : List (Edit E Z order)) (replies : List (Reply E Z order)) (edit : Edit E Z order) (reply : Reply E Z order)
      → Run old edits replies mid → Step mid edit reply new → Run old (edits ++ edit ∷ []) (replies ++ reply ∷ []) new
  Run-push old mid new [] [] edit reply run step = (new, subst (λ text. Step text edit reply new) run step, refl)
  Run-push old mid new [] (r ∷ replies) edit reply run step = absurd run
  Run-push old mid new (e ∷ edits) [] edit reply run step = absurd run
  Run-push old mid new (e ∷ edits) (r ∷ replies) edit reply run step = (run.0, run.1, Run-push run.0 mid new edits replies edit reply run.2 step)

  -- edits that do not allocate keep the capacity
  pub room-push : (old mid new : ℕ) (edits : List (Edit E Z order)) (edit : Edit E Z order) → (All (λ edit. ¬ (MayAllocate edit)) edits → mid ≡ old)
      → MayAllocate edit ⊎ (new ≡ mid) → All (λ edit. ¬ (MayAllocate edit)) (edits ++ edit ∷ []) → new ≡ old
  room-push old mid new edits edit kept stays free =
      let before = All-pop (λ edit. ¬ (MayAllocate edit)) (edits ++ edit ∷ []) edits (Some edit) refl free in
      ⊎_elim (λ (asks : MayAllocate edit). absurd (before.1 asks)) (λ (same : new ≡ mid). same ∙ kept before.0) stays
