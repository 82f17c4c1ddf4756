use Rattle.std.proofs.Common.{◌≡◌, ◌∷◌, [], ◌∙◌, ℕ, All, List, Result, Ok, Err, IfOk, ap, rules}
use Rattle.std.specs.Prelude.{Vec}
use Rattle.utf16_units.specs.declared.byte_order.Utf16Order.{Ghosts}
use Rattle.utf16_tools.specs.Edited.{all_edited, no_memory, said}
use Rattle.utf16_tools.specs.Step.{Run}
use Rattle.utf16_tools.specs.declared.edit.Edit.{Edit}
use Rattle.utf16_tools.specs.declared.edit.Edit.TheVariants.{Push}
use Rattle.utf16_tools.specs.declared.edit.Reply.{Reply}
use Rattle.utf16_tools.proofs.EditedLemmas.{Run-computed}
use Rattle.uses_strings.proofs.scripts.push_two.Goals as goal

module _ {E Z Y X : Type 0} {order : Ghosts E} (old new : List ℕ) (edits script : List (Edit E Z order)) (is : edits ≡ script) where
  computed : (r : Result (Vec (Reply E Z order) Y) X) → IfOk r (λ replies. Run old edits replies.items new)
      → IfOk r (λ replies. All (λ reply. ¬ (said reply ≡ no_memory)) replies.items → new ≡ all_edited old script)
  computed (Ok replies) run = λ all. (Run-computed _ _ _ _ run all).1 ∙ ap (all_edited old) is
  computed (Err e) run = tt

pub returns : goal.returns
returns g c =
    computed _ _ _ (Push c.args.first ∷ Push c.args.second ∷ []) (search rules) c.run.result c.run.ensures.run
