use Rattle.std.proofs.Common.{◌≡◌, ◌≤◌, ◌∷◌, ◌++◌, ◌∙◌, [], All, arith, append-nil, map-id, subst, sym, rules}
use Rattle.std.proofs.lemmas.Iterator.Adapters.{YieldsList-from_vec}
use Rattle.std.proofs.lemmas.Iterator.Consumers.{YieldsList-end}
use Rattle.utf16string.specs.WString.{wstring_capacity, wstring_text}
use Rattle.utf16_tools.proofs.Runs.{Run-push, room-push}
use Rattle.utf16_tools.proofs.Served.{AreServed, room_for, served-more}
use Rattle.utf16_tools.specs.Edited.{EachFits, Fits}
use Rattle.utf16_tools.specs.Step.{MayAllocate, Run}
use Rattle.utf16_tools.proofs.edit.apply_each.Given.{Over}
use Rattle.utf16_tools.proofs.edit.apply_each.Goals as goal
use Rattle.utf16_tools.proofs.edit.apply_each.Goals.{In-None}

pub loop-edit-preserved : goal.loop-edit-preserved
loop-edit-preserved g c =
    let pushed : c.push.new.self.items ≡ c.loop-edit.replies.items ++ c.apply-reply.result ∷ [] = search rules in
    let room = wstring_capacity c.args.string.now in
    let mid = wstring_text c.loop-edit.string in
    let grown : room ≤ wstring_capacity c.apply-reply.new.string = omega (arith, c.loop-edit.invariant.3, c.apply-reply.ensures.grows) in
    let granted = λ (fits : Fits room mid c.in-Some.edit). c.apply-reply.ensures.succeeds (room_for room c.loop-edit.string c.in-Some.edit c.loop-edit.invariant.3 fits) in (
      subst (λ replies. Run (wstring_text c.args.string.now) (c.loop-edit.yielded ++ c.in-Some.edit ∷ []) replies (wstring_text c.apply-reply.new.string)) (sym pushed)
          (Run-push _ _ _ _ _ _ _ c.loop-edit.invariant.0 c.apply-reply.ensures.step),
      search rules,
      room-push (wstring_capacity c.args.string.now) (wstring_capacity c.loop-edit.string) (wstring_capacity c.apply-reply.new.string) c.loop-edit.yielded c.in-Some.edit
          c.loop-edit.invariant.2 c.apply-reply.ensures.stays,
      grown,
      subst (λ replies. AreServed room (wstring_text c.args.string.now) (c.loop-edit.yielded ++ c.in-Some.edit ∷ []) replies (wstring_text c.apply-reply.new.string)) (sym pushed)
          (served-more room (wstring_text c.args.string.now) mid (wstring_text c.apply-reply.new.string) c.loop-edit.yielded c.loop-edit.replies.items c.in-Some.edit c.apply-reply.result
          c.loop-edit.invariant.4 granted c.apply-reply.ensures.step),
    )

module _ (g : Over) (c : In-None g) where
  -- the loop has applied all edits
  all : c.loop-edit.yielded ≡ c.args.edits.items
  all =
      let given = c.into_iter-edit-iterator.ensures.into_iter_gives in
      let list = YieldsList-from_vec {s = c.into_iter-edit-iterator.result} c.args.edits.items given.0 (given.1 ∙ c.args.edits.ok.0) in
      let end = YieldsList-end list c.loop-edit.yielded c.loop-edit.edit-iterator c.loop-edit.yielded_by c.next.result c.next.new.self c.in-None.is c.next.ensures.steps in
      sym (map-id c.loop-edit.yielded) ∙ end.0

pub returns-clause-served : goal.returns-clause-served
returns-clause-served g c fits =
    let yielded = all g (goal.at.returns-clause-served g c).In-None in
    (c.loop-edit.invariant.4 [] (subst (EachFits (wstring_capacity c.args.string.now) (wstring_text c.args.string.now)) (sym (append-nil c.loop-edit.yielded ∙ yielded)) fits)).1

pub returns-clause-stays : goal.returns-clause-stays
returns-clause-stays g c free =
    let yielded = all g (goal.at.returns-clause-stays g c).In-None in
    c.loop-edit.invariant.2 (subst (All (λ edit. ¬ (MayAllocate edit))) (sym yielded) free)
